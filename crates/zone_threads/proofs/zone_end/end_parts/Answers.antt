use Rattle.std.proofs.Common.{rules}
use Rattle.zone_threads.proofs.zone_end.end_parts.Goals as goal

pub returns-clause-ended : goal.returns-clause-ended
returns-clause-ended g c = search rules
