use Rattle.mem_alloc.proofs.KillLaws.{charges_kill_over_limits}
use Rattle.mem_alloc.proofs.laws.charges_kill_over_limits.Goals as goal

pub returns : goal.returns
returns c = charges_kill_over_limits
