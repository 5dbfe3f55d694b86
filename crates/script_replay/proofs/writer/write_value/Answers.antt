use Rattle.std.proofs.Common.{◌≡◌, ◌&&◌, ◌++◌, ◌∙◌, ap, Bool, false, true, IfOk, rules, subst, sym}
use Rattle.std.specs.String.{string_bytes}
use Rattle.group_charge.specs.Charges.{Ledger}
use Rattle.reply_texts.specs.Answers.{answer_text}
use Rattle.script_replay.specs.{explanation_if, is_noted, head_named, path_removed, borrower_of, fault_in, reasoned_text}
use Rattle.script_replay.proofs.Serving.{plainly, with_both}
use Rattle.script_replay.proofs.writer.write_value.Goals as goal

pub returns-then-not-is_explained : goal.returns-then-not-is_explained
returns-then-not-is_explained g c =
    let machine = c.args.locked.now.machine in
    let value = c.args.value.now in
    let said = answer_text machine.ledger value in
    let lent = borrower_of (head_named c.args.command.now) machine in
    let removed = path_removed c.args.command.now in
    let first : string_bytes c.write_plainly.new.text ≡ string_bytes c.args.text.now ++ said =
    c.in_ok-write_plainly.ensures ∙ ap (λ (l : Ledger). string_bytes c.args.text.now ++ answer_text l value) c.charges.ensures in
    let off : c.args.is_explained ≡ false = search rules in
    subst (λ (b : Bool). string_bytes c.write_plainly.new.text
    ≡ string_bytes c.args.text.now ++ (reasoned_text b said (fault_in value) lent ++ explanation_if (is_noted value && b) removed machine)) (sym off)
    (plainly said (fault_in value) lent removed machine (string_bytes c.args.text.now) (is_noted value) (string_bytes c.write_plainly.new.text) first)

pub returns : goal.returns
returns g c =
    let machine = c.args.locked.now.machine in
    let value = c.args.value.now in
    let said = answer_text machine.ledger value in
    let lent = borrower_of (head_named c.args.command.now) machine in
    let removed = path_removed c.args.command.now in
    let first : string_bytes c.write_plainly.new.text ≡ string_bytes c.args.text.now ++ said =
    c.in_ok-write_plainly.ensures ∙ ap (λ (l : Ledger). string_bytes c.args.text.now ++ answer_text l value) c.charges.ensures in
    let on : c.args.is_explained ≡ true = search rules in
    subst (λ (b : Bool). IfOk c.explain.result (λ _. string_bytes c.explain.new.text
    ≡ string_bytes c.args.text.now ++ (reasoned_text b said (fault_in value) lent ++ explanation_if (is_noted value && b) removed machine))) (sym on)
    (with_both said (fault_in value) lent removed machine (string_bytes c.args.text.now) c.explain.result (is_noted value) (string_bytes c.write_plainly.new.text)
    (string_bytes c.write_reason.new.text) (string_bytes c.explain.new.text) first c.in_ok-write_reason.ensures c.explain.ensures)
