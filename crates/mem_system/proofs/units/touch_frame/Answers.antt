use Rattle.std.proofs.Common.{rules}
use Rattle.mem_system.proofs.units.touch_frame.Goals as goal

pub returns-in-Marked-clause-touched : goal.returns-in-Marked-clause-touched
returns-in-Marked-clause-touched g c = search rules
