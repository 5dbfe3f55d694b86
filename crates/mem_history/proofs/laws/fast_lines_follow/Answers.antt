use Rattle.mem_history.proofs.Fast.{fast_lines_follow}
use Rattle.mem_history.proofs.laws.fast_lines_follow.Goals as goal

pub returns : goal.returns
returns c = fast_lines_follow
