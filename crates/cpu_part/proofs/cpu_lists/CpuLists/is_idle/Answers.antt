use Rattle.std.proofs.Common.{arith}
use Rattle.std.proofs.lemmas.Grind.{common_steps}
use Rattle.cpu_part.proofs.cpu_lists.CpuLists.is_idle.Goals as goal

pub returns-then-is_empty-3 : goal.returns-then-is_empty-3
returns-then-is_empty-3 g c = grind (arith, common_steps)
