-- A CPU's fresh and back frames, its book, and the pages that it passed back and that aren't absorbed.
use Rattle.std.specs.Prelude.{◌≡◌, ℕ, ◌+◌, ◌≤◌, ◌==◌, true, is_some, length, if◌then◌else◌}
use Rattle.step_rules.specs.declared.step.Action.{Action}
use Rattle.step_rules.specs.declared.step.Action.TheVariants.{PassBack, Report, Absorb}
use Rattle.step_rules.specs.declared.step.Answer.{Answer}
use Rattle.step_rules.specs.declared.step.Answer.TheVariants.{Done, Pages}
use Rattle.step_rules.specs.Phases.{FreshFrame, BackFrame, has_as}
use Rattle.step_rules.specs.State.{Zone, one_if, is_cpu, pins_of, times, most_fresh, most_pins}
use Rattle.step_rules.specs.After.{Run, state_of, part_after, IsLegalRun}
use Rattle.step_rules.specs.Units.{units_after_run}
use Rattle.step_rules.specs.Returns.{counted_with_run}

-- the pages that a step leaves unreported at the CPU: one, if the CPU passes back a fresh frame
abbrev pub unreported_in : ℕ → Run → ℕ → Action → Answer → ℕ
unreported_in cpu run seat (PassBack f) Done =
    if seat == cpu then one_if (is_some ((units_after_run run).fresh_for f)) else 0
unreported_in cpu run seat action answer = 0

-- the pages that the CPU reports by a step
abbrev pub reported_in : ℕ → Run → ℕ → Action → Answer → ℕ
reported_in cpu run seat (Report n) Done = if seat == cpu then n else 0
reported_in cpu run seat action answer = 0

-- the reported pages of the CPU that a step absorbs
abbrev pub absorbed_in : ℕ → Run → ℕ → Action → Answer → ℕ
absorbed_in cpu run seat (Absorb other) (Pages n) = if other == cpu then n else 0
absorbed_in cpu run seat action answer = 0

-- The list of fresh frames has each frame that is fresh at the CPU once, and no other; the same holds for the back
-- frames. The book is the pages of the stock, the fresh frames, and the pages unreported and reported. The pages of
-- fresh frames passed back are unreported until reported, and reported until absorbed. There are at most 32 fresh
-- frames, and at most 256 pins and back frames of a CPU.
pub record PartIsBooked (zone : Zone) (run : Run) (cpu : ℕ) : Type 0 where
  pub fresh : (f : ℕ) → times f (part_after zone run cpu).fresh
      ≡ one_if (has_as FreshFrame cpu ((state_of zone run).phases f))
  pub back : (f : ℕ) → times f (part_after zone run cpu).back
      ≡ one_if (has_as BackFrame cpu ((state_of zone run).phases f))
  pub book : (part_after zone run cpu).book
      ≡ (part_after zone run cpu).stock.pages + length (part_after zone run cpu).fresh
      + (part_after zone run cpu).unreported + (part_after zone run cpu).reported
  pub unreported : counted_with_run (unreported_in cpu) run
      ≡ (part_after zone run cpu).unreported + counted_with_run (reported_in cpu) run
  pub reported : counted_with_run (reported_in cpu) run
      ≡ (part_after zone run cpu).reported + counted_with_run (absorbed_in cpu) run
  pub few_fresh : length (part_after zone run cpu).fresh ≤ most_fresh
  pub few_pins : is_cpu zone cpu ≡ true → pins_of (state_of zone run) cpu + length (part_after zone run cpu).back ≤ most_pins

-- after every legal run the fresh and back frames and the book of each CPU are as `PartIsBooked` says
abbrev pub AllPartsAreBooked : Type 0
AllPartsAreBooked = (zone : Zone) (run : Run) → IsLegalRun zone run → (cpu : ℕ) → PartIsBooked zone run cpu
