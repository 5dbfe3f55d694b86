use Rattle.std.proofs.Common.{◌≡◌, ◌++◌, drop, map, take}
use Rattle.group_tree.specs.Groups.{flagged}
use Rattle.group_tree.proofs.tree.set_flag.Given as goal

abbrev pub invariant-loop-row : goal.invariant-loop-row
invariant-loop-row l = l.rows ≡ map (flagged l.group l.oom_group) (take l.row-index l.initial.rows) ++ drop l.row-index l.initial.rows
