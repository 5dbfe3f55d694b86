-- What the loop of `play` keeps.
use Rattle.std.proofs.Common.{◌≡◌, ◌≤◌, length, take, vec_capacity}
use Rattle.std.specs.List.{zip}
use Rattle.mem_core.specs.Shown.{zone_of_config}
use Rattle.mem_core.proofs.Playing.{PlaysOn}
use Rattle.mem_core.proofs.run.play.Given as goal

-- what was said of whole runs holds of the steps made so far
abbrev pub invariant-loop-step : goal.invariant-loop-step
invariant-loop-step l = record {
  one_each : length l.answers.items ≡ l.step-index;
  room : length l.steps ≤ vec_capacity l.answers;
  plays : PlaysOn (zone_of_config l.fn.config) l.core (zip (take l.step-index l.steps) l.answers.items);
}
