use Rattle.std.proofs.Common.{rules, ◌∙◌, sym}
use Rattle.script_lint.proofs.Causes.{after_none, after_word}
use Rattle.script_lint.proofs.cause.after_space.Goals as goal

pub returns-in-Some : goal.returns-in-Some
returns-in-Some c = sym (after_word _ _ _ c.in-Some.ensures)

pub returns-in-None : goal.returns-in-None
returns-in-None c = search rules ∙ sym (after_none _ c.in-None.ensures)
