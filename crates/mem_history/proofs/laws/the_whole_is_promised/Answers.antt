use Rattle.mem_history.proofs.Promised.{the_whole_is_promised}
use Rattle.mem_history.proofs.laws.the_whole_is_promised.Goals as goal

pub returns : goal.returns
returns c = the_whole_is_promised
