use Rattle.std.proofs.Common.{rules}
use Rattle.cpu_part.proofs.cpu_lists.CpuLists.number.Goals as goal

pub returns-clause-number : goal.returns-clause-number
returns-clause-number g c = search rules
