use Rattle.mem_history.proofs.Wholes.{the_holder_is_shown}
use Rattle.mem_history.proofs.laws.the_holder_is_shown.Goals as goal

pub returns : goal.returns
returns c = the_holder_is_shown
