use Rattle.std.proofs.Common.{rules}
use Rattle.cpu_part.proofs.cpu_lists.CpuLists.pin_count.Goals as goal

pub returns-clause-count : goal.returns-clause-count
returns-clause-count g c = search rules
