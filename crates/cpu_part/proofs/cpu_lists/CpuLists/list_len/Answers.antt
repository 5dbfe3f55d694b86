use Rattle.std.proofs.Common.{rules}
use Rattle.cpu_part.proofs.cpu_lists.CpuLists.list_len.Goals as goal

pub returns-clause-count : goal.returns-clause-count
returns-clause-count g c = search rules
