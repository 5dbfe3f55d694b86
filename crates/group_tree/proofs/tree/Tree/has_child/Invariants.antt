use Rattle.std.proofs.Common.{◌≡◌, ◌==◌, ◌&&◌, not, false, take}
use Rattle.std.specs.List.{list_any}
use Rattle.group_tree.specs.Groups.{in_subtree}
use Rattle.group_tree.proofs.tree.Tree.has_child.Given as goal

abbrev pub invariant-loop-row : goal.invariant-loop-row
invariant-loop-row l = list_any (λ h. not (h.number == l.group) && in_subtree l.self l.group h.number) (take l.row-index l.row-items) ≡ false
