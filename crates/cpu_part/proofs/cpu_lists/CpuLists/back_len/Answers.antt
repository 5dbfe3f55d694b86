use Rattle.std.proofs.Common.{rules}
use Rattle.cpu_part.proofs.cpu_lists.CpuLists.back_len.Goals as goal

pub returns : goal.returns
returns g c = search rules
