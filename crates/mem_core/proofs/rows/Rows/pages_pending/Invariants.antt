-- What the loop of `pages_pending` keeps.
use Rattle.std.proofs.Common.{◌≡◌, ◌≤◌, ◌*◌, ◌^◌}
use Rattle.std.specs.Prelude.{if◌then◌else◌}
use Rattle.group_tree.specs.Groups.{in_subtree}
use Rattle.step_rules.specs.State.{sum_to}
use Rattle.mem_core.specs.Rows.{state_in}
use Rattle.mem_core.proofs.rows.Rows.pages_pending.Given as goal

abbrev pub invariant-loop-number : goal.invariant-loop-number
invariant-loop-number l = record {
  sum : l.sum ≡ sum_to l.number (λ h. if in_subtree l.self.tree l.group h then (state_in l.self).pending h else 0);
  few : l.sum ≤ l.number * 2 ^ 96;
}
