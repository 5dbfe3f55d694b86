use Rattle.std.proofs.Common.{arith}
use Rattle.std.proofs.lemmas.Grind.{common_steps}
use Rattle.cpu_part.proofs.cpu_lists.CpuLists.first_pin.Goals as goal

pub returns : goal.returns
returns g c = grind (arith, common_steps)
