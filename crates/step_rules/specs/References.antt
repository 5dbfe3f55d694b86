-- References on a frame, counted over the run alone: what each answer says of them.
use Rattle.std.specs.Prelude.{◌≡◌, ℕ, ◌+◌, ◌-◌, ◌<◌, ◌≤◌, true, is_some}
use Rattle.step_rules.specs.declared.step.Action.{Action}
use Rattle.step_rules.specs.declared.step.Action.TheVariants.{Get, Put, Freeze}
use Rattle.step_rules.specs.declared.step.Answer.{Answer}
use Rattle.step_rules.specs.declared.step.Answer.TheVariants.{Done, Held, Zero, Full, Left, Last}
use Rattle.step_rules.specs.State.{Zone, sum_to, most_references}
use Rattle.step_rules.specs.After.{Run}
use Rattle.step_rules.specs.Units.{units_after_run}
use Rattle.step_rules.specs.Counts.{references_gained, references_lost, counted}

-- the references of the seat on the frame: those it was given, less those it gave up
abbrev pub references_had : Run → ℕ → ℕ → ℕ
references_had run seat f = counted (references_gained seat f) run - counted (references_lost seat f) run

-- the references of all seats of the zone on the frame
abbrev pub references_on : Zone → Run → ℕ → ℕ
references_on zone run f = sum_to (zone.cpus + 1) (λ seat. references_had run seat f)

-- The step after this run counts references as its answer says; `next` is the run with the step. A get adds one to
-- those of the head of a unit that has some, below 255. It is answered Zero only if there is none, and Full only at
-- 255. A put is of a seat that has a reference: `Left n` leaves n, at least one, and Last leaves none. A freeze takes n
-- references, at least one: all that seat 0 has, and it leaves none.
abbrev pub CountsReferences : Zone → Run → Run → ℕ → Action → Answer → Type 0
CountsReferences zone run next seat (Get f) Held = (is_some ((units_after_run run).unit f) ≡ true)
    × (1 ≤ references_on zone run f) × (references_on zone run f < most_references)
    × (references_on zone next f ≡ references_on zone run f + 1)
CountsReferences zone run next seat (Get f) Zero = references_on zone run f ≡ 0
CountsReferences zone run next seat (Get f) Full = references_on zone run f ≡ most_references
CountsReferences zone run next seat (Put f) (Left n) = (1 ≤ references_had run seat f)
    × (references_on zone next f ≡ n) × (1 ≤ n)
CountsReferences zone run next seat (Put f) Last = (1 ≤ references_had run seat f) × (references_on zone next f ≡ 0)
CountsReferences zone run next seat (Freeze f n) Done = (1 ≤ n) × (references_had run 0 f ≡ n)
    × (references_on zone next f ≡ 0)
CountsReferences zone run next seat action answer = Unit {0}
