-- Each lesser number is a group's.
use Rattle.std.proofs.Common.{ℕ, ◌<◌, IsTrue}
use Rattle.group_tree.specs.Groups.{has_group}
use Rattle.mem_core.proofs.due.least_free.Given as goal

abbrev pub invariant-loop-number : goal.invariant-loop-number
invariant-loop-number l = (k : ℕ) → k < l.number → IsTrue (has_group l.tree k)
