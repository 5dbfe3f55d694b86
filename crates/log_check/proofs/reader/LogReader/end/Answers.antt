-- Serves the contract of `end`: the text is a log, or its last line is bad.
use Rattle.std.proofs.Common.{◌≡◌, ◌≢◌, ◌∙◌, ◌+◌, ◌==◌, [], length, refl, rules, sym, ap, subst}
use Rattle.std.specs.Prelude.{vec_len}
use Rattle.std.proofs.lemmas.Bool.{false≢true}
use Rattle.std.proofs.lemmas.List.{nil_from_length}
use Rattle.step_rules.specs.State.{State}
use Rattle.log_check.specs.Ends.{IsEnd}
use Rattle.log_check.proofs.Bytes.{ends_cut, ends_left_out, ends_unsized, ends_well}
use Rattle.log_check.proofs.reader.LogReader.end.Goals as goal

pub returns-then-not-is_empty-clause-verdict : goal.returns-then-not-is_empty-clause-verdict
returns-then-not-is_empty-clause-verdict c = λ before h.
    let some : c.args.self.line.items ≢ [] = λ empty.
    let none : length c.args.self.line.items ≡ 0 = ap length empty in
    let zero : vec_len c.args.self.line ≡ 0 = search (rules, none) in
    false≢true (sym c.if-not-is_empty.true ∙ c.is_empty.ensures ∙ ap (λ n. n == 0) zero) in
    ends_cut before c.args.self (c.args.self.lines + 1) h some refl

pub returns-in-None-clause-verdict : goal.returns-in-None-clause-verdict
returns-in-None-clause-verdict c = λ before h.
    let none : length c.args.self.line.items ≡ 0 = search rules in
    ends_unsized before c.args.self (c.args.self.lines + 1) h (nil_from_length c.args.self.line.items none) c.in-None.is refl

pub returns-then-self-eq0-clause-verdict : goal.returns-then-self-eq0-clause-verdict
returns-then-self-eq0-clause-verdict c = λ before h.
    let none : length c.args.self.line.items ≡ 0 = search rules in
    ends_well before c.args.self c.in-Some.checker c.end_of.result h (nil_from_length c.args.self.line.items none) c.in-Some.is c.if-self-eq0.true
    (subst (λ (s : State). IsEnd s c.end_of.result) c.rows.ensures.state c.end_of.ensures)

pub returns-else-self-eq0-clause-verdict : goal.returns-else-self-eq0-clause-verdict
returns-else-self-eq0-clause-verdict c = λ before h.
    let none : length c.args.self.line.items ≡ 0 = search rules in
    ends_left_out before c.args.self c.in-Some.checker h (nil_from_length c.args.self.line.items none) c.in-Some.is c.if-self-eq0.false
