use Rattle.std.proofs.Common.{map, take, true}
use Rattle.script_replay.specs.{InOrder, system_state, terms}
use Rattle.load_run.specs.Logs.{GrowsBy, LogsNext}
use Rattle.load_run.proofs.logging.log_each.Given as goal

abbrev pub invariant-loop-next : goal.invariant-loop-next
invariant-loop-next g l =
    GrowsBy (λ log. InOrder (LogsNext (terms g.N.BootName.table true) (map (λ text. text.now) l.texts)) (take l.next-index l.lines)
    (system_state l.initial.locked l.initial.cpus) (system_state l.locked l.cpus) log) l.initial.log.items l.log.items
