use Rattle.std.proofs.Common.{◌≡◌, ◌∙◌, ◌-◌, suc, ap, arith, sym}
use Rattle.script_lint.specs.Causes.{word_behind}
use Rattle.script_lint.proofs.cause.word_behind.Goals as goal

pub loop-left-preserved : goal.loop-left-preserved
loop-left-preserved c =
    let more = c.loop-left-test.true in
    let next : c.loop-left.left ≡ suc (c.loop-left.left - 1) = omega arith in
    ap (word_behind (c.loop-left.left - 1)) c.after_space-rest.ensures ∙ ap (λ n. word_behind n c.loop-left.rest.now) (sym next) ∙ c.loop-left.invariant

pub returns : goal.returns
returns c =
    let none = c.loop-left-test.false in
    let is : c.loop-left.left ≡ 0 = omega arith in
    c.until_space.ensures ∙ ap (λ n. word_behind n c.loop-left.rest.now) (sym is) ∙ c.loop-left.invariant
