-- The words of the state that a run leads to: the word and the visit word of frame_word, the stock word and the report
-- word of stock_word.
use Rattle.std.specs.Prelude.{◌≡◌, ℕ, ◌+◌, ◌*◌, ◌<◌, ◌≤◌, Bool, true, false, Option, Some, None, List, length, slice_index, slice_set}
use Rattle.frame_word.specs.Word.{mark, visit_index}
use Rattle.stock_word.specs.declared.stock.Stock.{Stock}
use Rattle.stock_word.specs.declared.stock.Stock.TheVariants.{NoGroup, HeldBy, DrainedOf}
use Rattle.stock_word.specs.{word_of, HasWord, stock_index, report_index}
use Rattle.step_rules.specs.declared.phase.Way.TheVariants.{PassingOut, PassingBack}
use Rattle.step_rules.specs.declared.phase.Stage.TheVariants.{FreshPassing, BackPassing}
use Rattle.step_rules.specs.declared.phase.Phase.{Phase}
use Rattle.step_rules.specs.declared.phase.Phase.TheVariants.{Lent, Head}
use Rattle.step_rules.specs.State.{Zone, State, Part, live_references, one_if, visits}
use Rattle.step_rules.specs.After.{Run, state_of, IsLegalRun}

-- the words of a zone: first one for each frame and one for each CPU's visit, then the rows of the CPUs' stocks, as
-- frame_word and stock_word number them
pub record Words : Type 0 where
  pub frames : List ℕ
  pub stocks : List ℕ

-- the word of a frame in this phase that has this many references: its number of references, or the mark of a CPU
-- while it is in transit to or from that CPU
abbrev pub word_in_phase : Phase → ℕ → ℕ
word_in_phase (Lent cpu PassingOut) live = mark cpu
word_in_phase (Lent cpu PassingBack) live = mark cpu
word_in_phase (Head unit (FreshPassing cpu)) live = mark cpu
word_in_phase (Head unit (BackPassing cpu)) live = mark cpu
word_in_phase phase live = live

-- the word of the frame
abbrev pub frame_word : State → ℕ → ℕ
frame_word s f = word_in_phase (s.phases f) (live_references s f)

-- the visit word of the CPU: 1 while its visit is open
abbrev pub visit_word : State → ℕ → ℕ
visit_word s cpu = one_if (visits cpu s.hold)

-- the stock of this group with these pages, drained or not
abbrev pub stock_of_group : ℕ → ℕ → Bool → Stock
stock_of_group g pages true = DrainedOf g
stock_of_group g pages false = HeldBy g pages

-- the stock as a stock word says it, by its group, its pages and whether it was drained
abbrev pub stock_said : Option ℕ → ℕ → Bool → Stock
stock_said None pages is_drained = NoGroup
stock_said (Some g) pages is_drained = stock_of_group g pages is_drained

-- the stock of the part, as its stock word says it
abbrev pub stock_in : Part → Stock
stock_in part = stock_said part.stock.group part.stock.pages part.stock.is_drained

-- the words of the frames and of the visits are those of the state
pub record AreFrameWords (s : State) (words : List ℕ) : Type 0 where
  pub wide : s.zone.frames + s.zone.cpus ≤ length words
  pub frame : (f : ℕ) → f < s.zone.frames → slice_index words f ≡ frame_word s f
  pub visit : (cpu : ℕ) → 1 ≤ cpu → cpu ≤ s.zone.cpus
      → slice_index words (visit_index s.zone.frames cpu) ≡ visit_word s cpu

-- the words of the stocks and reports are those of the state, and each stock has a word
pub record AreStockWords (s : State) (words : List ℕ) : Type 0 where
  pub wide : 16 * (s.zone.cpus + 1) ≤ length words
  pub has_word : (cpu : ℕ) → 1 ≤ cpu → cpu ≤ s.zone.cpus → HasWord (stock_in (s.parts cpu))
  pub stock : (cpu : ℕ) → 1 ≤ cpu → cpu ≤ s.zone.cpus
      → slice_index words (stock_index cpu) ≡ word_of (stock_in (s.parts cpu))
  pub report : (cpu : ℕ) → 1 ≤ cpu → cpu ≤ s.zone.cpus → slice_index words (report_index cpu) ≡ (s.parts cpu).reported

-- the run is legal, and the words are those of the state that it leads to
pub record IsRunOf (zone : Zone) (words : Words) (run : Run) : Type 0 where
  pub legal : IsLegalRun zone run
  pub frames : AreFrameWords (state_of zone run) words.frames
  pub stocks : AreStockWords (state_of zone run) words.stocks

-- the words with another one for the frame
abbrev pub with_frame_word : Words → ℕ → ℕ → Words
with_frame_word words f word = record words { frames = slice_set words.frames f word }

-- the words with another visit word of the CPU
abbrev pub with_visit_word : Zone → Words → ℕ → ℕ → Words
with_visit_word zone words cpu word =
    record words { frames = slice_set words.frames (visit_index zone.frames cpu) word }

-- the words with another stock word of the CPU
abbrev pub with_stock_word : Words → ℕ → ℕ → Words
with_stock_word words cpu word = record words { stocks = slice_set words.stocks (stock_index cpu) word }

-- the words with another report word of the CPU
abbrev pub with_report_word : Words → ℕ → ℕ → Words
with_report_word words cpu word = record words { stocks = slice_set words.stocks (report_index cpu) word }
