use Rattle.std.proofs.Common.{◌≡◌, ◌++◌, drop, map, take}
use Rattle.group_tree.specs.Groups.{limited}
use Rattle.group_tree.proofs.tree.set_limit.Given as goal

abbrev pub invariant-loop-row : goal.invariant-loop-row
invariant-loop-row l = l.rows ≡ map (limited l.group l.limit) (take l.row-index l.initial.rows) ++ drop l.row-index l.initial.rows
