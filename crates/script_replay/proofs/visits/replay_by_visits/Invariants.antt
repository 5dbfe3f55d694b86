use Rattle.std.proofs.Common.{take}
use Rattle.std.specs.String.{string_bytes}
use Rattle.script_replay.specs.{known_system, VisitsAll}
use Rattle.script_replay.proofs.visits.replay_by_visits.Given as goal

abbrev pub invariant-loop-line : goal.invariant-loop-line
invariant-loop-line g l =
    VisitsAll (known_system g.N.BootName.table l.system.sizes) (take l.line-index l.lines) l.initial.cpus l.cpus (string_bytes l.answers)
