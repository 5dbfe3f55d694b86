use Rattle.std.proofs.Common.{subst}
use Rattle.group_tree.specs.Groups.{AreGroups}
use Rattle.group_tree.proofs.CallerLemmas.{root_there}
use Rattle.group_tree.proofs.tree.Tree.groups.Goals as goal

pub returns-clause-root : goal.returns-clause-root
returns-clause-root c = root_there c.args.self.now (subst AreGroups c.self.view_is c.self.invariant.0)
