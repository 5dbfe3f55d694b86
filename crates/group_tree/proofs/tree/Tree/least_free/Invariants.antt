use Rattle.std.proofs.Common.{ℕ, ◌<◌, ◌≤◌, ◌-◌, length, IsTrue}
use Rattle.group_tree.specs.Groups.{has_group}
use Rattle.group_tree.proofs.tree.Tree.least_free.Given as goal

abbrev pub invariant-loop-number : goal.invariant-loop-number
invariant-loop-number l = (l.number ≤ length l.self) × ((k : ℕ) → k < l.number → IsTrue (has_group l.self k))

abbrev pub decreases-loop-number : goal.decreases-loop-number
decreases-loop-number l = length l.self - l.number
