use Rattle.std.proofs.Common.{sym, ap, ◌∙◌, subst}
use Rattle.std.specs.Option.{option_copied}
use Rattle.group_tree.specs.Groups.{AreGroups}
use Rattle.group_tree.proofs.GroupLemmas.{group-formed}
use Rattle.group_tree.proofs.tree.Tree.path_of.Goals as goal

pub returns-clause-formed : goal.returns-clause-formed
returns-clause-formed c =
    group-formed c.args.self.now c.args.group c.unwrap.result.now (subst AreGroups c.self.view_is c.self.invariant.0) (sym c.row.ensures
    ∙ ap option_copied c.unwrap.ensures)
