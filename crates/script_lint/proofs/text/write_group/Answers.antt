use Rattle.std.proofs.Common.{codes}
use Rattle.script_lint.specs.Texts.{group_range_text, shown_word_text}
use Rattle.script_lint.proofs.Pieces.{follow}
use Rattle.script_lint.proofs.text.write_group.Goals as goal

pub returns : goal.returns
returns c =
    follow c.write_groups.result _ (codes "group ") (shown_word_text c.args.finding.now) (group_range_text c.args.sizes.now.choices.groups) _ _ _
    c.in_ok-push_str.ensures.bytes c.in_ok-push_word.ensures c.write_groups.ensures
