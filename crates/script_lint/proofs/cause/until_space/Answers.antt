use Rattle.std.proofs.Common.{sym}
use Rattle.script_lint.proofs.Causes.{until_none, until_word}
use Rattle.script_lint.proofs.cause.until_space.Goals as goal

pub returns-in-Some : goal.returns-in-Some
returns-in-Some c = sym (until_word _ _ _ c.in-Some.ensures)

pub returns-in-None : goal.returns-in-None
returns-in-None c = sym (until_none _ c.in-None.ensures)
