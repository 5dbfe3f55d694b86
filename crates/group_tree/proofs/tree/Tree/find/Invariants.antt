use Rattle.std.proofs.Common.{◌≡◌, drop}
use Rattle.std.specs.List.{find}
use Rattle.std.specs.Str.{bytes_eq}
use Rattle.group_tree.proofs.tree.Tree.find.Given as goal

abbrev pub invariant-loop-row : goal.invariant-loop-row
invariant-loop-row l = find (λ g. bytes_eq g.path l.path) (drop l.row-index l.row-items) ≡ find (λ g. bytes_eq g.path l.path) l.self
