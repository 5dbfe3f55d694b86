use Rattle.std.proofs.Common.{sym, ap, ◌∙◌}
use Rattle.std.specs.List.{list_all}
use Rattle.group_tree.specs.Path.{is_name}
use Rattle.group_tree.proofs.PathLemmas.{names-root, names_behind, begins_from_test}
use Rattle.group_tree.proofs.names.has_names.Goals as goal

pub returns-then-is_root : goal.returns-then-is_root
returns-then-is_root c =
    c.if-is_root.true ∙ sym (ap (list_all is_name) (names-root c.args.path.now (sym c.is_root.ensures ∙ c.if-is_root.true)))

pub returns-else-is_root : goal.returns-else-is_root
returns-else-is_root c =
    c.are_names.ensures ∙ ap (list_all is_name)
    (sym (names_behind c.args.path.now (sym c.is_root.ensures ∙ c.if-is_root.false) (begins_from_test c.args.path.now c.requires)))
