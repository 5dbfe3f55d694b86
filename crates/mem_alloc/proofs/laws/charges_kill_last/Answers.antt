use Rattle.mem_alloc.proofs.ComingLast.{charges_kill_last}
use Rattle.mem_alloc.proofs.laws.charges_kill_last.Goals as goal

pub returns : goal.returns
returns c = charges_kill_last
