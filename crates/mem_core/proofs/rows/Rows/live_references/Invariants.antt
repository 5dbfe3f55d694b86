-- What the loop of `live_references` keeps.
use Rattle.std.proofs.Common.{◌≡◌, ◌≤◌, ◌*◌}
use Rattle.step_rules.specs.State.{sum_to}
use Rattle.mem_core.specs.Rows.{state_in}
use Rattle.mem_core.proofs.rows.Rows.live_references.Given as goal

abbrev pub invariant-loop-seat : goal.invariant-loop-seat
invariant-loop-seat l = record {
  sum : l.sum ≡ sum_to l.seat (λ seat. (state_in l.self).references seat l.frame);
  few : l.sum ≤ l.seat * 255;
}
