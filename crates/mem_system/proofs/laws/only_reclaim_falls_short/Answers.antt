use Rattle.mem_system.proofs.CommandLaws.{only_reclaim_falls_short}
use Rattle.mem_system.proofs.laws.only_reclaim_falls_short.Goals as goal

pub returns : goal.returns
returns c = only_reclaim_falls_short
