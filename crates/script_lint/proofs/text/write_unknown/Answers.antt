use Rattle.std.proofs.Common.{◌≡◌, ◌++◌, IfOk, Option, None, Some, codes, subst, sym}
use Rattle.std.specs.String.{string_bytes}
use Rattle.script_lines.specs.declared.verb.Verb.{Verb}
use Rattle.script_lint.specs.Texts.{near_text, shown_word_text}
use Rattle.script_lint.proofs.Pieces.{behind}
use Rattle.script_lint.proofs.text.write_unknown.Goals as goal

pub returns-in-Some : goal.returns-in-Some
returns-in-Some c sizes =
    subst (λ (near : Option Verb). IfOk c.write_near.result (λ x. string_bytes c.write_near.new.text
    ≡ string_bytes c.args.text.now ++ (codes "no command '" ++ (shown_word_text c.args.finding.now ++ (codes "'" ++ near_text near))))) (sym c.in-Some.is)
    (behind c.write_near.result _ (codes "no command '") (shown_word_text c.args.finding.now ++ (codes "'" ++ near_text (Some c.in-Some.verb))) _ _ c.in_ok-push_str.ensures.bytes
    (behind c.write_near.result _ (shown_word_text c.args.finding.now) (codes "'" ++ near_text (Some c.in-Some.verb)) _ _ c.in_ok-push_word.ensures
    (behind c.write_near.result _ (codes "'") (near_text (Some c.in-Some.verb)) _ _ c.in_ok-push_str-2.ensures.bytes c.write_near.ensures)))

pub returns-in-None : goal.returns-in-None
returns-in-None c sizes =
    subst (λ (near : Option Verb). IfOk c.write_commands.result (λ x. string_bytes c.write_commands.new.text
    ≡ string_bytes c.args.text.now ++ (codes "no command '" ++ (shown_word_text c.args.finding.now ++ (codes "'" ++ near_text near))))) (sym c.in-None.is)
    (behind c.write_commands.result _ (codes "no command '") (shown_word_text c.args.finding.now ++ (codes "'" ++ near_text None)) _ _ c.in_ok-push_str.ensures.bytes
    (behind c.write_commands.result _ (shown_word_text c.args.finding.now) (codes "'" ++ near_text None) _ _ c.in_ok-push_word.ensures
    (behind c.write_commands.result _ (codes "'") (near_text None) _ _ c.in_ok-push_str-2.ensures.bytes c.write_commands.ensures)))
