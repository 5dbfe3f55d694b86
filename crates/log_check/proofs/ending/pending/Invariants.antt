-- Serves the loop of `pending`: so many pages are pending for the groups before this one.
use Rattle.std.proofs.Common.{◌≡◌, ◌≤◌, ◌*◌, ◌^◌}
use Rattle.step_rules.specs.State.{sum_to}
use Rattle.mem_core.specs.Rows.{state_in}
use Rattle.log_check.proofs.ending.pending.Given as goal

abbrev pub invariant-loop-number : goal.invariant-loop-number
invariant-loop-number l = (l.sum ≡ sum_to l.number (state_in l.rows).pending) × (l.sum ≤ l.number * 2 ^ 96)
