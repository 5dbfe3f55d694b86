use Rattle.std.proofs.Common.{rules, tests, ◌==◌}
use Rattle.std.proofs.lemmas.Iterator.{YieldsList-from_slice}
use Rattle.std.proofs.lemmas.Iterator.Search.{find_from_yields_List}
use Rattle.group_tree.specs.Groups.{group_at}
use Rattle.group_tree.proofs.tree.Tree.row.Goals as goal

pub returns : goal.returns
unfolding group_at
returns c =
    find_from_yields_List (λ g. g.number == c.args.group) _ _ c.find.result c.find.ensures.ran (YieldsList-from_slice c.args.self.now cc)
    (λ x b q k. search (rules, tests))
