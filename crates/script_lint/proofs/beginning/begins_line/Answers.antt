use Rattle.std.proofs.Common.{◌≡◌, ◌↔◌, IfOk, IsTrue, Bool, Result, Ok, Err, true, false, refl}
use Rattle.script_lint.specs.Lines.{GoesOn, IsGoodText}
use Rattle.script_lint.proofs.Ends.{told, no_name, no_word}
use Rattle.script_lint.proofs.beginning.begins_line.Goals as goal

pub returns-in-None : goal.returns-in-None
returns-in-None c = (
  λ yes. cc,
  λ on. absurd (no_word c.args.sizes.now c.requires.counts c.args.had_go c.args.front.now (c.in_ok-has_end.ensures.none c.if-branch.false)
      (rw c.in-None.is at c.first_word.ensures) on),
)

pub returns-in-Some : goal.returns-in-Some
returns-in-Some c =
    let begun = c.in-Some.begun.now in
    told c.has_name.result c.has_name.ensures.found c.has_name.ensures.none
    (λ none. no_name c.args.sizes.now c.requires.counts c.args.had_go c.args.front.now c.in-Some.field-0-0.now begun
    (c.in_ok-has_end.ensures.none c.if-branch.false) c.in-Some.ensures none)
