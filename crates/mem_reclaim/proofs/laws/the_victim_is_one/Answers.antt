use Rattle.mem_reclaim.proofs.Noted.{the_victim_is_one}
use Rattle.mem_reclaim.proofs.laws.the_victim_is_one.Goals as goal

pub returns : goal.returns
returns c = the_victim_is_one
