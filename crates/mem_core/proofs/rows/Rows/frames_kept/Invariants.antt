-- What the loop of `frames_kept` keeps.
use Rattle.std.proofs.Common.{◌≡◌, ◌≤◌, ◌+◌, ◌*◌}
use Rattle.std.specs.Prelude.{if◌then◌else◌}
use Rattle.std.specs.List.{slice_index_or}
use Rattle.group_tree.specs.Groups.{in_subtree}
use Rattle.step_rules.specs.State.{sum_to}
use Rattle.mem_core.proofs.rows.Rows.frames_kept.Given as goal

abbrev pub invariant-loop-number : goal.invariant-loop-number
invariant-loop-number l = record {
  sum : l.sum ≡ sum_to l.number (λ h. if in_subtree l.self.tree l.group h then slice_index_or l.kept (h + 1) 0 else 0);
  few : l.sum ≤ l.number * 1048576;
}
