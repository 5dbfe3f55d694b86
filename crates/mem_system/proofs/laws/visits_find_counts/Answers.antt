use Rattle.mem_system.proofs.Counted.{visits_find_counts}
use Rattle.mem_system.proofs.laws.visits_find_counts.Goals as goal

pub returns : goal.returns
returns c = visits_find_counts
