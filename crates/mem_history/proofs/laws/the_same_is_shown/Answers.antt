use Rattle.mem_history.proofs.Wholes.{the_same_is_shown}
use Rattle.mem_history.proofs.laws.the_same_is_shown.Goals as goal

pub returns : goal.returns
returns c = the_same_is_shown
