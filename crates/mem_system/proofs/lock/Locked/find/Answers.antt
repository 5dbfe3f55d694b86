use Rattle.std.proofs.Common.{rules}
use Rattle.mem_system.proofs.lock.Locked.find.Goals as goal

pub returns : goal.returns
returns g c = search rules
