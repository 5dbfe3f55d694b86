use Rattle.std.proofs.Common.{arith}
use Rattle.std.proofs.lemmas.Grind.{common_steps}
use Rattle.script_lines.proofs.place.path_end.Goals as goal

pub returns-then-end-text : goal.returns-then-end-text
returns-then-end-text c = grind (arith, common_steps)
