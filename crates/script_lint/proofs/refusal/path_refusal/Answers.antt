use Rattle.std.proofs.Common.{◌≡◌, rules, true}
use Rattle.group_tree.specs.Path.{is_root}
use Rattle.script_lint.proofs.Judging.{root_is_path}
use Rattle.script_lint.proofs.refusal.path_refusal.Goals as goal

pub returns-then-is_root : goal.returns-then-is_root
returns-then-is_root c = let root : is_root c.args.path.now ≡ true = search rules in root_is_path c.args.path.now root
