use Rattle.std.proofs.Common.{◌≡◌, ◌∙◌, None, rules, ap, arith, subst, sym, take}
use Rattle.script_lines.specs.Script.{texts_left, texts_of}
use Rattle.script_lines.proofs.Progress.{all_read, few_lines, next_of}
use Rattle.script_lint.specs.Pasts.{KnowsPast}
use Rattle.script_lint.proofs.Refusing.{ends_over, ends_whole, next_found, next_text}
use Rattle.script_lint.proofs.refused.find_refused.Goals as goal

pub overflow_add-number : goal.overflow_add-number
overflow_add-number c =
    let next = next_of c.args.input.now c.loop-rest.number c.first_line.result.0.now (texts_left c.first_line.result.1)
    (c.loop-rest.invariant.1 ∙ ap texts_left c.in-Some.is ∙ c.first_line.ensures) in
    let inside = next.0.inside in
    let few = few_lines c.args.input.now in
    record { fits = omega arith }

pub returns-then-not-is_within : goal.returns-then-not-is_within
returns-then-not-is_within c =
    ends_over c.args.sizes.now c.args.input.now c.loop-rest.number c.first_line_past_limit-over.result c.is_within.result
    c.loop-rest.refused.items c.loop-rest.invariant.0 c.first_line_past_limit-over.ensures c.is_within.ensures c.if-not-is_within.true

pub loop-rest-preserved : goal.loop-rest-preserved
loop-rest-preserved c =
    let script = c.args.input.now in
    let index = c.loop-rest.number in
    let next = next_of script index c.first_line.result.0.now (texts_left c.first_line.result.1)
    (c.loop-rest.invariant.1 ∙ ap texts_left c.in-Some.is ∙ c.first_line.ensures) in
    let inside = next.0.inside in (
      next_found c.args.sizes.now script index c.first_line.result.0.now c.first_line_past_limit-over.result c.is_within.result c.judge_text-why.result
          c.loop-rest.refused.items c.add_refusal.new.refused.items c.loop-rest.invariant.0 next.0 c.first_line_past_limit-over.ensures
          c.is_within.ensures c.if-not-is_within.false (c.judge_text-why.ensures (take index (texts_of script)) c.loop-rest.invariant.3) c.in_ok-add_refusal.ensures,
      next.1,
      omega arith,
      subst (KnowsPast c.add.new.self) (sym (next_text script index c.first_line.result.0.now next.0))
          (c.in_ok-add.ensures (take index (texts_of script)) c.loop-rest.invariant.3),
    )

pub returns : goal.returns
returns c =
    let none : c.loop-rest.rest ≡ None = search rules in
    ends_whole c.args.sizes.now c.args.input.now c.loop-rest.number c.loop-rest.refused.items c.loop-rest.invariant.0
    (all_read c.args.input.now c.loop-rest.number c.loop-rest.invariant.2 (c.loop-rest.invariant.1 ∙ ap texts_left none))
