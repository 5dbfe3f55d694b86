use Rattle.std.proofs.Common.{codes}
use Rattle.std.specs.String.{string_bytes}
use Rattle.script_lines.specs.Verb.{all_verbs}
use Rattle.script_lint.specs.Texts.{names_text}
use Rattle.script_lint.proofs.Pieces.{follow, told}
use Rattle.script_lint.proofs.text.write_commands.Goals as goal

pub returns : goal.returns
returns c =
    follow c.push_str-2.result _ (codes "; commands are ") (names_text all_verbs) (codes "and go without a CPU") _ _ _
    c.in_ok-push_str.ensures.bytes c.in_ok-write_names.ensures
    (told c.push_str-2.result (string_bytes c.write_names.new.text) (codes "and go without a CPU") _ c.push_str-2.ensures.bytes)
