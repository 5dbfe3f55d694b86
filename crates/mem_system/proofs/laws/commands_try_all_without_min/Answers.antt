use Rattle.mem_alloc.proofs.ComingLast.{tries_all_without_min}
use Rattle.mem_system.specs.Asks.{MayAskFor}
use Rattle.mem_system.proofs.laws.commands_try_all_without_min.Goals as goal

pub returns : goal.returns
returns c cmd groups = tries_all_without_min (MayAskFor cmd groups)
