use Rattle.std.proofs.Common.{rules}
use Rattle.mem_system.proofs.shutdown.Held.of.Goals as goal

pub returns-clause-pins : goal.returns-clause-pins
returns-clause-pins g c = search rules
