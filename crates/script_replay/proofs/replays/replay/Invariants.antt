use Rattle.std.proofs.Common.{take}
use Rattle.std.specs.String.{string_bytes}
use Rattle.script_replay.specs.{ServesAll, system_state, form_terms}
use Rattle.script_replay.proofs.replays.replay.Given as goal

abbrev pub invariant-loop-line : goal.invariant-loop-line
invariant-loop-line g l =
    ServesAll (form_terms g.N.BootName.table l.form) (take l.line-index l.lines)
    (system_state l.initial.locked l.initial.cpus) (system_state l.locked l.cpus) (string_bytes l.answers)
