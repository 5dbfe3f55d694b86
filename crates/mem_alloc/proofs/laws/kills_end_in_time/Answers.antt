use Rattle.mem_alloc.proofs.ComingLast.{kills_end_in_time}
use Rattle.mem_alloc.proofs.laws.kills_end_in_time.Goals as goal

pub returns : goal.returns
returns c = kills_end_in_time
