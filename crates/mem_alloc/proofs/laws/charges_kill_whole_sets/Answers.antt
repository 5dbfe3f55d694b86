use Rattle.mem_alloc.proofs.KillLaws.{charges_kill_whole_sets}
use Rattle.mem_alloc.proofs.laws.charges_kill_whole_sets.Goals as goal

pub returns : goal.returns
returns c = charges_kill_whole_sets
