use Rattle.std.proofs.Common.{◌≡◌, true, take}
use Rattle.std.specs.String.{string_bytes}
use Rattle.step_watch.specs.Watched.{has_legal_steps}
use Rattle.script_replay.specs.{ServesAll, system_state, form_terms}
use Rattle.script_replay.proofs.replays.replay_checked.Given as goal

abbrev pub invariant-loop-next : goal.invariant-loop-next
invariant-loop-next g l =
    ServesAll (form_terms g.N.BootName.table l.form) (take l.next-index l.lines)
    (system_state l.initial.locked l.initial.cpus) (system_state l.locked l.cpus) (string_bytes l.answers)
    × (has_legal_steps l.locked.machine.run.watch ≡ true)
