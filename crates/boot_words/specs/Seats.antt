-- The table as contracts see it, its words, the pasts of its seats, and what a seat may do to a word.
use Rattle.std.specs.Prelude.{[], ◌≡◌, ℕ, ◌+◌, ◌≤◌, ◌<◌, List, ◌∷◌, zero, suc}
use Rattle.atomic_table.specs.Seated.{TableId}
use Rattle.atomic_table.specs.Table.{Allows}
use Rattle.frame_word.specs.{visit_index}
use Rattle.stock_word.specs.Stock.{stock_index}
use Rattle.step_rules.specs.State.{Zone}
use Rattle.boot_words.specs.declared.word.Word.{Word}
use Rattle.boot_words.specs.declared.word.Word.TheVariants.{AlwaysZero, StockOf, OfFrame, VisitOf}
use Rattle.boot_words.specs.Rule.{frame_base, word_count, run_rule}
use Rattle.boot_words.specs.declared.past.Past.{Past}
use Rattle.boot_words.specs.Runs.{no_past}
use Rattle.boot_words.specs.Tables.{KnownTable}

-- the zone of a table
abbrev pub zone_of_boot : KnownTable → Zone
zone_of_boot t = record { frames = t.frames; cpus = t.cpus; groups = t.choices.groups }

-- the table has all words of the zone, and no slot; its rule is of that zone, which has a frame and a CPU
pub record HasBootLayout (table : TableId) (ruled zone : Zone) : Type 0 where
  pub words_are : table.words ≡ word_count zone
  pub slots_are : table.slots ≡ 0
  pub zone_is : ruled ≡ zone
  pub some_frame : 1 ≤ zone.frames
  pub some_cpu : 1 ≤ zone.cpus
  pub few_cpus : zone.cpus ≤ 64

-- where the word is
abbrev pub word_place : Zone → Word → ℕ
word_place zone AlwaysZero = 0
word_place zone (StockOf cpu) = stock_index cpu
word_place zone (OfFrame f) = frame_base zone + f
word_place zone (VisitOf cpu) = frame_base zone + visit_index zone.frames cpu

-- there is such a word: its frame or its CPU is the zone's
abbrev pub IsInTable : Zone → Word → Type 0
IsInTable zone AlwaysZero = Unit {0}
IsInTable zone (StockOf cpu) = cpu ≤ zone.cpus
IsInTable zone (OfFrame f) = f < zone.frames
IsInTable zone (VisitOf cpu) = (1 ≤ cpu) × (cpu ≤ zone.cpus)

-- the frame of the word
abbrev pub frame_of_word : Word → ℕ
frame_of_word (OfFrame f) = f
frame_of_word word = 0

-- the CPU of the word
abbrev pub cpu_of_word : Word → ℕ
cpu_of_word (StockOf cpu) = cpu
cpu_of_word (VisitOf cpu) = cpu
cpu_of_word word = 0

-- n CPUs from this number on have made no step
abbrev pub cpus_pasts : ℕ → ℕ → List Past
cpus_pasts cpu zero = []
cpus_pasts cpu (suc n) = no_past cpu ∷ cpus_pasts (cpu + 1) n

-- the pasts of a new table, all with one seat
abbrev pub all_pasts : ℕ → List Past
all_pasts cpus = no_past 0 ∷ cpus_pasts 1 cpus

-- the first past alone
abbrev pub first_alone : List Past → List Past
first_alone [] = []
first_alone (p ∷ pasts) = p ∷ []

-- all pasts but the first
abbrev pub rest_of : List Past → List Past
rest_of [] = []
rest_of (p ∷ pasts) = pasts

-- A seat with these pasts may make this change of the word, in any state that keeps the rule. The postcondition holds then of
-- the word that was there and of the seat's new pasts.
abbrev pub MayChange : Zone → List Past → Word → (ℕ → ℕ) → (ℕ → List Past → Type 0) → Type 0
MayChange zone pasts word change post = (id : ℕ)
    → Allows {S = Unit {0}} (run_rule zone) 0 id (pasts, []) (word_place zone word) change
    (λ found later. (later.1 ≡ []) × post found later.0)
