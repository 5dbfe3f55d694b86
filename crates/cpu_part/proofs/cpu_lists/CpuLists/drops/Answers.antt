use Rattle.std.proofs.Common.{rules}
use Rattle.cpu_part.proofs.cpu_lists.CpuLists.drops.Goals as goal

pub returns : goal.returns
returns g c = search rules
