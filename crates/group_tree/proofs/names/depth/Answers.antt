use Rattle.std.proofs.Common.{sym, ap, ◌∙◌, length}
use Rattle.group_tree.proofs.PathLemmas.{names-root, depth-slashes, begins_from_well_formed}
use Rattle.group_tree.proofs.names.depth.Goals as goal

pub returns-then-is_root : goal.returns-then-is_root
returns-then-is_root c = sym (ap length (names-root c.args.path.now (sym c.is_root.ensures ∙ c.if-is_root.true)))

pub returns-else-is_root : goal.returns-else-is_root
returns-else-is_root c =
    c.slashes.ensures ∙ sym (depth-slashes c.args.path.now (sym c.is_root.ensures ∙ c.if-is_root.false) (begins_from_well_formed c.args.path.now c.requires))
