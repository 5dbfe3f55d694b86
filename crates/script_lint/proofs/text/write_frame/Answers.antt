use Rattle.std.proofs.Common.{codes}
use Rattle.script_lint.specs.Texts.{zone_range_text, shown_word_text}
use Rattle.script_lint.proofs.Pieces.{follow}
use Rattle.script_lint.proofs.text.write_frame.Goals as goal

pub returns : goal.returns
returns c =
    follow c.write_frames.result _ (codes "frame ") (shown_word_text c.args.finding.now) (zone_range_text c.args.sizes.now.frames) _ _ _
    c.in_ok-push_str.ensures.bytes c.in_ok-push_word.ensures c.write_frames.ensures
