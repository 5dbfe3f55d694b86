use Rattle.std.proofs.Common.{arith}
use Rattle.step_rules.proofs.Lists.{stands_at}
use Rattle.cpu_part.proofs.cpu_lists.CpuLists.has_fresh.Goals as goal

pub returns : goal.returns
returns g c = grind (arith, stands_at)
