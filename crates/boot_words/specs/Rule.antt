-- The words of the one table, its rule, which keeps a legal run, and what each seat has seen of that run.
use Rattle.std.specs.Prelude.{[], ◌≡◌, ℕ, ◌+◌, ◌*◌, ◌==◌, false, List, ◌∷◌, take, drop, ◌⊎◌, ◌<◌, nat_le, true, length}
use Rattle.stock_word.specs.Stock.{group_base}
use Rattle.step_rules.specs.{Zone, one_if, Run, state_of, is_of_lock, holds_lock}
use Rattle.boot_words.specs.Runs.{OthersFollow, IsFast}
use Rattle.boot_words.specs.Words.{Words, IsRunOf}
use Rattle.boot_words.specs.declared.past.Past.{Past}
use Rattle.atomic_table.specs.Table.{State as Board}

-- The rows of the stocks come first. The first word of row 0 is one that nobody writes: seats that are parted or joined
-- load it. The words of frames and visits follow.
abbrev pub frame_base : Zone → ℕ
frame_base zone = 16 * (zone.cpus + 1)

-- how many words the table has
abbrev pub word_count : Zone → ℕ
word_count zone = frame_base zone + (zone.frames + zone.cpus)

-- the words of the table, as a run's words are parted
abbrev pub words_in : Zone → List ℕ → Words
words_in zone words = record { frames = drop (frame_base zone) words; stocks = take (frame_base zone) words }

-- nobody takes or releases the lock in the run
abbrev pub LeavesLock : Run → Type 0
LeavesLock [] = Unit {0}
LeavesLock (e ∷ run) = (is_of_lock e.0.action ≡ false) × LeavesLock run

-- A past is a beginning of the run, after which no step of its number follows. After the zone's past nobody takes or
-- releases the lock, so that the zone's past ends with each of these steps.
pub record IsPastOf (run : Run) (p : Past) : Type 0 where
  pub goes : OthersFollow p.number p.seen run
  pub leaves_lock : p.number ≡ 0 → LeavesLock goes.rest

-- P holds of each, by the list's form, as proofs take it apart
abbrev pub AllOf : {A : Type 0} → (A → Type 0) → List A → Type 0
AllOf P [] = Unit {0}
AllOf P (x ∷ xs) = P x × AllOf P xs

-- no step of the run needs the lock
abbrev pub AreFast : Run → Type 0
AreFast [] = Unit {0}
AreFast (e ∷ run) = IsFast e.0.action × AreFast run

-- the past is the zone's, or that of a CPU which holds the lock after it
abbrev pub HasLock : Zone → Past → Type 0
HasLock zone p = (p.number ≡ 0) ⊎ (holds_lock p.number (state_of zone p.seen).hold ≡ true)

-- The past is a beginning of the run, after which its seat made no step. After the zone's past, and after that of the
-- CPU which holds the lock, no step needs the lock. The book that a CPU's past left fits a stock word.
pub record BeginsRun (zone : Zone) (run : Run) (p : Past) : Type 0 where
  pub goes : OthersFollow p.number p.seen run
  pub fast : HasLock zone p → AreFast goes.rest
  pub few : ((state_of zone p.seen).parts p.number).book < group_base

-- the sum of f over a list
abbrev pub sum_over : {A : Type 0} → (A → ℕ) → List A → ℕ
sum_over f [] = 0
sum_over f (x ∷ xs) = f x + sum_over f xs

-- the total of f over all pasts of all seats
abbrev pub total_over : {A : Type 0} → (A → ℕ) → List (List A) → ℕ
total_over f seats = sum_over (λ pasts. sum_over f pasts) seats

-- how often the past counts among those of the number: once or not at all
abbrev pub of_number : ℕ → Past → ℕ
of_number number p = one_if (p.number == number)

-- every past in every seat has P
abbrev pub AllPasts : (Past → Type 0) → List (List Past) → Type 0
AllPasts P seats = AllOf (λ (pasts : List Past). AllOf P pasts) seats

-- There is a legal run whose state has just these words. Each book fits a stock word. The zone and each CPU have one
-- past, and there is no other; each is a beginning of the run.
pub record RunRule (zone : Zone) (words : List ℕ) (seats : List (List Past)) : Type 0 where
  pub run : Run
  pub is : IsRunOf zone (words_in zone words) run
  pub wide : length words ≡ word_count zone
  pub small : (cpu : ℕ) → ((state_of zone run).parts cpu).book < group_base
  pub one_past : (number : ℕ) → total_over (of_number number) seats ≡ one_if (nat_le number zone.cpus)
  pub fits : AllPasts (BeginsRun zone run) seats

-- the rule of a table's state
abbrev pub run_rule : {S : Type 0} → Zone → Board S (List Past) → Type 0
run_rule zone s = RunRule zone s.words s.views
