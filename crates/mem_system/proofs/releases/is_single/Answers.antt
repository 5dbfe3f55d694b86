use Rattle.std.proofs.Common.{rules}
use Rattle.mem_system.proofs.releases.is_single.Goals as goal

pub returns-in-Some : goal.returns-in-Some
returns-in-Some g c = search rules
