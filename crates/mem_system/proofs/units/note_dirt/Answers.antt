use Rattle.std.proofs.Common.{rules}
use Rattle.mem_system.proofs.units.note_dirt.Goals as goal

pub returns-clause-noted : goal.returns-clause-noted
returns-clause-noted g c = search rules
