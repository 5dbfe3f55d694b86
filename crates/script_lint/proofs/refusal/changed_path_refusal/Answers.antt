use Rattle.std.proofs.Common.{◌≡◌, false, rules}
use Rattle.group_tree.specs.Path.{is_root}
use Rattle.script_lint.proofs.Judging.{can_change}
use Rattle.script_lint.proofs.refusal.changed_path_refusal.Goals as goal

pub returns-else-is_root : goal.returns-else-is_root
returns-else-is_root c =
    let other : is_root c.args.path.now ≡ false = search rules in
    can_change c.args.path.now other c.path_refusal.result c.path_refusal.ensures
