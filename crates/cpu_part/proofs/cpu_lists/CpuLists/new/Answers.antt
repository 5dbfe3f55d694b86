use Rattle.std.proofs.Common.{rules}
use Rattle.cpu_part.proofs.cpu_lists.CpuLists.new.Goals as goal

pub returns : goal.returns
returns g c = search rules

pub invariant_of-result : goal.invariant_of-result
invariant_of-result g c = search rules
