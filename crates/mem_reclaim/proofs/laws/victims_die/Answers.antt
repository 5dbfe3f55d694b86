use Rattle.mem_reclaim.proofs.Dying.{victims_die}
use Rattle.mem_reclaim.proofs.laws.victims_die.Goals as goal

pub returns : goal.returns
returns c = victims_die
