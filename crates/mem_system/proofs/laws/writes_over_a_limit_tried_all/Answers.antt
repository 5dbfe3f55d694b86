use Rattle.mem_system.proofs.Tried.{written_tried_all}
use Rattle.mem_system.proofs.laws.writes_over_a_limit_tried_all.Goals as goal

pub returns : goal.returns
returns c = written_tried_all
