use Rattle.mem_alloc.proofs.ComingLast.{kills_come_last}
use Rattle.mem_system.specs.Asks.{MayAskFor}
use Rattle.mem_system.proofs.laws.commands_kill_last.Goals as goal

pub returns : goal.returns
returns c cmd reply call served before rest made g is kills =
    kills_come_last (MayAskFor cmd served.settled.machine.ledger.groups) call.table served.settled.machine served.inner before rest made g
    served.no_rash is kills
