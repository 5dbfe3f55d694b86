-- A step has one answer, but that any free block may be placed.
use Rattle.std.proofs.Common.{◌≡◌, ◌∙◌, ap, inl, inr, subst, sym}
use Rattle.std.proofs.lemmas.Bool.{true≢false}
use Rattle.mem_core.specs.Rows.{state_in}
use Rattle.step_rules.specs.declared.step.Answer.{Answer}
use Rattle.step_rules.specs.{IsPlacing, Allows, after}
use Rattle.step_rules.proofs.Answering.{answers_alike}
use Rattle.mem_core.proofs.checker.take_other.Goals as goal

pub returns-then-not-is_same-clause-denied : goal.returns-then-not-is_same-clause-denied
returns-then-not-is_same-clause-denied c = λ other.
    let step = c.args.step.now in
    elim (answers_alike (state_in c.args.rows.now) step.seat step.action c.due_anew-due.result c.args.answer.now c.requires.groups
    c.due_anew-due.ensures.allowed other) [
      | inl same ↦ true≢false (sym (c.is_same.ensures.1 same) ∙ c.if-not-is_same.true)
      | inr both ↦ c.requires.other both.1
    ]

pub returns-clause-accepted : goal.returns-clause-accepted
returns-clause-accepted c =
    let s = state_in c.args.rows.now in
    let step = c.args.step.now in
    let due : c.due_anew-due.result ≡ c.args.answer.now = c.is_same.ensures.0 c.if-not-is_same.false in
    let made : c.serve.result ≡ c.args.answer.now =
    elim (answers_alike s step.seat step.action c.due_anew-due.result c.serve.result c.requires.groups c.due_anew-due.ensures.allowed
    c.serve.ensures.allowed) [
      | inl same ↦ sym same ∙ due
      | inr both ↦ absurd (c.requires.other (subst IsPlacing due both.0))
    ] in
    record {
      allowed = subst (λ (x : Answer). Allows s step.seat step.action x) due c.due_anew-due.ensures.allowed;
      state = c.serve.ensures.state ∙ ap (after s step.seat step.action) made;
    }
