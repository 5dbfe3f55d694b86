use Rattle.std.proofs.Common.{arith}
use Rattle.std.proofs.lemmas.Grind.{common_steps}
use Rattle.mem_machine.proofs.machine.Machine.unit.Goals as goal

pub returns-in-Head : goal.returns-in-Head
returns-in-Head g c = grind (arith, common_steps)
