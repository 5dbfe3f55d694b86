use Rattle.std.proofs.Common.{rules}
use Rattle.mem_system.proofs.system.System.shutdown.Goals as goal

pub returns-in-Ok-clause-adds_up : goal.returns-in-Ok-clause-adds_up
returns-in-Ok-clause-adds_up g c = search rules

pub returns-in-Ok-clause-ends : goal.returns-in-Ok-clause-ends
returns-in-Ok-clause-ends g c = search rules
