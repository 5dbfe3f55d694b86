use Rattle.std.proofs.Common.{◌++◌, codes}
use Rattle.script_lint.specs.{verb_of, form_text_of, shown_word_text}
use Rattle.script_lint.proofs.Pieces.{follow}
use Rattle.script_lint.proofs.text.write_number.Goals as goal

pub returns : goal.returns
returns c sizes =
    follow c.write_misfit.result _ (codes "'") (shown_word_text c.args.finding.now)
    (codes "' isn't a number from 0 to 4294967295: " ++ form_text_of (verb_of c.args.finding.now.text.now)) _ _ _
    c.in_ok-push_str.ensures.bytes c.in_ok-push_word.ensures c.write_misfit.ensures
