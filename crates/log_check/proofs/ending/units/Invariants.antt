-- Serves the loop of `units`: so many of the frames before this one head a unit without references.
use Rattle.std.proofs.Common.{◌≡◌, ◌≤◌}
use Rattle.step_rules.specs.State.{one_if, sum_to}
use Rattle.mem_core.specs.Rows.{state_in}
use Rattle.log_check.specs.Ends.{is_unreferenced}
use Rattle.log_check.proofs.ending.units.Given as goal

abbrev pub invariant-loop-frame : goal.invariant-loop-frame
invariant-loop-frame l = (l.sum ≡ sum_to l.frame (λ f. one_if (is_unreferenced (state_in l.rows) f))) × (l.sum ≤ l.frame)
