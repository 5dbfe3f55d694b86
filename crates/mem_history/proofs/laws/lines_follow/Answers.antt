use Rattle.mem_history.proofs.Wholes.{lines_follow}
use Rattle.mem_history.proofs.laws.lines_follow.Goals as goal

pub returns : goal.returns
returns c = lines_follow
