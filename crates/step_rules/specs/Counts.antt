-- What a run says of references, stocks and books, counted over its pairs alone.
use Rattle.std.specs.Prelude.{◌≡◌, ℕ, ◌+◌, ◌==◌, ◌&&◌, sum_by, if◌then◌else◌}
use Rattle.step_rules.specs.declared.step.Action.{Action}
use Rattle.step_rules.specs.declared.step.Action.TheVariants.{Get, Put, Freeze, Unfreeze, Consume, Credit, Absorb, Fill, DrainStock}
use Rattle.step_rules.specs.declared.step.Answer.{Answer}
use Rattle.step_rules.specs.declared.step.Answer.TheVariants.{Done, Held, Left, Last, Took, Stocked, Pages}
use Rattle.step_rules.specs.State.{Zone}
use Rattle.step_rules.specs.After.{Run, state_of, part_after, IsLegalRun}

-- n if both numbers match, else 0
abbrev pub count_at : ℕ → ℕ → ℕ → ℕ → ℕ → ℕ
count_at a b k m n = if a == k && b == m then n else 0

-- the references that a step gives to seat k on frame m
abbrev pub references_gained : ℕ → ℕ → ℕ → Action → Answer → ℕ
references_gained k m seat (Get f) Held = count_at seat f k m 1
references_gained k m seat (Unfreeze f n) Done = count_at 0 f k m n
references_gained k m seat action answer = 0

-- the references that a step takes from seat k on frame m
abbrev pub references_lost : ℕ → ℕ → ℕ → Action → Answer → ℕ
references_lost k m seat (Put f) (Left n) = count_at seat f k m 1
references_lost k m seat (Put f) Last = count_at seat f k m 1
references_lost k m seat (Freeze f n) Done = count_at 0 f k m n
references_lost k m seat action answer = 0

-- the pages that a step puts into the stock of the CPU: filled or credited
abbrev pub stock_gained : ℕ → ℕ → Action → Answer → ℕ
stock_gained cpu seat (Fill other g n) Done = if other == cpu then n else 0
stock_gained cpu seat (Credit f) Stocked = if seat == cpu then 1 else 0
stock_gained cpu seat action answer = 0

-- the pages that a step takes from the stock of the CPU: consumed or drained
abbrev pub stock_lost : ℕ → ℕ → Action → Answer → ℕ
stock_lost cpu seat (Consume g) Took = if seat == cpu then 1 else 0
stock_lost cpu seat (DrainStock other) (Pages n) = if other == cpu then n else 0
stock_lost cpu seat action answer = 0

-- the pages that a step adds to the book of the CPU: filled
abbrev pub book_gained : ℕ → ℕ → Action → Answer → ℕ
book_gained cpu seat (Fill other g n) Done = if other == cpu then n else 0
book_gained cpu seat action answer = 0

-- the pages that a step takes off the book of the CPU: drained or absorbed
abbrev pub book_lost : ℕ → ℕ → Action → Answer → ℕ
book_lost cpu seat (DrainStock other) (Pages n) = if other == cpu then n else 0
book_lost cpu seat (Absorb other) (Pages n) = if other == cpu then n else 0
book_lost cpu seat action answer = 0

-- the sum of what each step of a run counts
abbrev pub counted : (ℕ → Action → Answer → ℕ) → Run → ℕ
counted count run = sum_by (λ e. count e.0.seat e.0.action e.1) run

-- After every legal run a seat's references on a frame are those it was given less those it gave up. It is given one by
-- a get that was Held, and the count of an unfreeze. It gives up one by a put, and the count of a freeze that was Done.
abbrev pub ReferencesAreCounted : Type 0
ReferencesAreCounted = (zone : Zone) (run : Run) → IsLegalRun zone run → (seat f : ℕ)
    → counted (references_gained seat f) run
    ≡ (state_of zone run).references seat f + counted (references_lost seat f) run

-- after every legal run the pages of a stock are those filled and credited, less those consumed and drained
abbrev pub StocksAreCounted : Type 0
StocksAreCounted = (zone : Zone) (run : Run) → IsLegalRun zone run → (cpu : ℕ)
    → counted (stock_gained cpu) run ≡ (part_after zone run cpu).stock.pages + counted (stock_lost cpu) run

-- after every legal run a book is the pages filled, less those drained and absorbed
abbrev pub BooksAreCounted : Type 0
BooksAreCounted = (zone : Zone) (run : Run) → IsLegalRun zone run → (cpu : ℕ)
    → counted (book_gained cpu) run ≡ (part_after zone run cpu).book + counted (book_lost cpu) run
