-- Laws of the words, the run beside them and the pasts of all seats, between any two atomic steps.
use Rattle.std.specs.Prelude.{[], ◌≡◌, ◌≢◌, ◌↔◌, ℕ, ◌+◌, ◌<◌, ◌≤◌, true, Option, Some, None, MatchOption, List, length, slice_index}
use Rattle.frame_word.specs.{mark, visit_index}
use Rattle.stock_word.specs.declared.stock.Stock.TheVariants.{NoGroup}
use Rattle.stock_word.specs.{word_of, stock_pages_of, stock_index, report_index, HasWord}
use Rattle.stock_word.specs.Stock.{group_base}
use Rattle.step_rules.specs.declared.phase.Way.TheVariants.{OnList}
use Rattle.step_rules.specs.declared.phase.Stage.{Stage}
use Rattle.step_rules.specs.declared.phase.Stage.TheVariants.{AwaitsReturn, BackAt, Bare, Collected, FreshAt}
use Rattle.step_rules.specs.declared.phase.Phase.{Phase}
use Rattle.step_rules.specs.declared.phase.Phase.TheVariants.{InZone, Lent, Head, Tail}
use Rattle.step_rules.specs.declared.step.Action.TheVariants.{Get}
use Rattle.step_rules.specs.declared.step.Answer.TheVariants.{Zero}
use Rattle.step_rules.specs.State.{State}
use Rattle.step_rules.specs.{Part, Zone, is_cpu, live_references, state_of, most_references}
use Rattle.boot_words.specs.Pasts.{KnownPasts, IsCpuPast, own_past}
use Rattle.boot_words.specs.Rule.{words_in, AllPasts, RunRule}
use Rattle.boot_words.specs.Seats.{zone_of_boot}
use Rattle.boot_words.specs.declared.past.Past.{Past}
use Rattle.boot_words.specs.Calls.{CpuMakes}
use Rattle.boot_words.specs.Cpus.{IsAwayCpu, KnownCpuSeat, state_left}
use Rattle.boot_words.specs.Hidden.{hide}
use Rattle.boot_words.specs.Sight.{HasSameLists, HasSameOrDrained}
use Rattle.boot_words.specs.Words.{stock_in}
use Rattle.boot_words.specs.Tables.{KnownTable}

-- ---- references

-- the seat that has a unit's head in its hand at this stage
abbrev pub stage_in_hand_of : Stage → Option ℕ
stage_in_hand_of (FreshAt cpu) = Some cpu
stage_in_hand_of (BackAt cpu) = Some cpu
stage_in_hand_of Collected = Some 0
stage_in_hand_of Bare = Some 0
stage_in_hand_of AwaitsReturn = Some 0
stage_in_hand_of stage = None

-- The seat that has a frame in its hand, so that it alone may use it: a CPU, or 0 for the zone. While the frame has
-- references or is in transit, no seat has it so.
abbrev pub in_hand_of : Phase → Option ℕ
in_hand_of InZone = Some 0
in_hand_of (Tail g) = Some 0
in_hand_of (Lent cpu OnList) = Some cpu
in_hand_of (Lent cpu way) = None
in_hand_of (Head unit stage) = stage_in_hand_of stage

-- the word is the mark of a CPU whose visit is open by its visit word
pub record IsVisitorsMark (zone : Zone) (words : List ℕ) (word : ℕ) : Type 0 where
  pub cpu : ℕ
  pub of_cpu : is_cpu zone cpu ≡ true
  pub is_mark : word ≡ mark cpu
  pub opened : slice_index words (visit_index zone.frames cpu) ≡ 1

-- The word of frame f counts its references, those of the zone and of all CPUs. It is 0 exactly while the frame is in a
-- seat's hand, and a mark only in a visit.
pub record IsFrameCounted (zone : Zone) (words : List ℕ) (s : State) (f : ℕ) : Type 0 where
  pub counts : slice_index words f ≤ most_references → live_references s f ≡ slice_index words f
  pub unreferred : most_references < slice_index words f → live_references s f ≡ 0
  pub marked : most_references < slice_index words f → IsVisitorsMark zone words (slice_index words f)
  pub hand : MatchOption (in_hand_of (s.phases f)) (1 ≤ slice_index words f)
      (λ seat. (slice_index words f ≡ 0) × (seat ≤ zone.cpus))

-- Between any two atomic steps, each frame's word counts its references.
abbrev pub WordsCountReferences : Type 0
WordsCountReferences = (zone : Zone) (words : List ℕ) (seats : List (List Past)) (k : RunRule zone words seats)
    → (f : ℕ) → f < zone.frames → IsFrameCounted zone (words_in zone words).frames (state_of zone k.run) f

-- ---- prepaid pages

-- All pages prepaid for the CPU, its book, are in its stock word, in fresh frames, or passed back with those: not yet
-- reported, or in its report word. They fit a stock word, and there is none before the first fill.
pub record IsStockBooked (words : List ℕ) (part : Part) (cpu : ℕ) : Type 0 where
  pub stock : slice_index words (stock_index cpu) ≡ word_of (stock_in part)
  pub has_word : HasWord (stock_in part)
  pub book : part.book ≡ stock_pages_of (stock_in part) + length part.fresh + part.unreported
      + slice_index words (report_index cpu)
  pub few : part.book < group_base
  pub unfilled : part.stock.group ≡ None → part.book ≡ 0

-- Between any two atomic steps, each CPU's prepaid pages are booked so.
abbrev pub WordsBookPages : Type 0
WordsBookPages = (zone : Zone) (words : List ℕ) (seats : List (List Past)) (k : RunRule zone words seats)
    → (cpu : ℕ) → is_cpu zone cpu ≡ true
    → IsStockBooked (words_in zone words).stocks ((state_of zone k.run).parts cpu) cpu

-- ---- pasts

-- By its past a seat knows what is its own in this state: its references on each frame, and which frames are in its
-- hand. The zone knows all apart from each CPU's own part. A CPU knows its part, except that its stock may have been
-- drained since.
pub record KnowsItsOwn (zone : Zone) (s : State) (p : Past) : Type 0 where
  pub references : s.references p.number ≡ (state_of zone p.seen).references p.number
  pub hand : (f : ℕ) → (in_hand_of (s.phases f) ≡ Some p.number)
      ↔ (in_hand_of ((state_of zone p.seen).phases f) ≡ Some p.number)
  pub zone_knows : p.number ≡ 0 → hide s ≡ hide (state_of zone p.seen)
  pub cpu_knows : p.number ≢ 0 → HasSameLists p.number (state_of zone p.seen) s
      × HasSameOrDrained ((state_of zone p.seen).parts p.number) (s.parts p.number)

-- Between any two atomic steps, each seat knows its own. So its references and frames are among those that the words
-- count, and its pages among those booked.
abbrev pub SeatsKnowTheirOwn : Type 0
SeatsKnowTheirOwn = (zone : Zone) (words : List ℕ) (seats : List (List Past)) (k : RunRule zone words seats)
    → AllPasts (KnowsItsOwn zone (state_of zone k.run)) seats

-- ---- what a CPU knows

-- A CPU that has a reference on the frame never gets Zero.
abbrev pub NeverZero : Type 0
NeverZero = (t : KnownTable) (s : KnownPasts) (f : ℕ) (s' : KnownPasts) → IsCpuPast t s → CpuMakes t s (Get f) Zero s'
    → (state_of (zone_of_boot t) (own_past s).seen).references (own_past s).number f ≡ 0

-- A CPU that is away and saw a stock of no group last has no fresh frame.
abbrev pub NoGroupNothingFresh : Type 0
NoGroupNothingFresh = (t : KnownTable) (c : KnownCpuSeat) → IsAwayCpu t c → c.last ≡ NoGroup
    → ((state_left t c).parts c.number).fresh ≡ []
