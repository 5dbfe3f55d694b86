use Rattle.std.proofs.Common.{◌≡◌, IsTrue}
use Rattle.group_tree.specs.{depth_at, has_group, in_subtree}
use Rattle.mem_machine.proofs.subtrees.is_at_or_below.Given as goal

abbrev pub invariant-loop-group : goal.invariant-loop-group
invariant-loop-group l = record {
  there : IsTrue (has_group l.tree l.above);
  same : in_subtree l.tree l.group l.above ≡ in_subtree l.tree l.group l.fn.other;
}

abbrev pub decreases-loop-group : goal.decreases-loop-group
decreases-loop-group l = depth_at l.tree l.above
