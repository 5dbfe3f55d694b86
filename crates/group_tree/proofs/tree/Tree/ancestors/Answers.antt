use Rattle.group_tree.proofs.AncestorLemmas.{ancestors_of-path}
use Rattle.group_tree.proofs.tree.Tree.ancestors.Goals as goal

pub returns-clause-path : goal.returns-clause-path
returns-clause-path c = ancestors_of-path c.args.self.now c.args.group c.groups-groups.ensures.legal c.requires
