use Rattle.mem_reclaim.proofs.Dying.{only_the_living}
use Rattle.mem_reclaim.proofs.laws.only_the_living_die.Goals as goal

pub returns : goal.returns
returns c = only_the_living
