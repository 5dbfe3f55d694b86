use Rattle.std.proofs.Common.{◌≡◌}
use Rattle.mem_system.proofs.InTurns.{SoFar}
use Rattle.load_run.specs.Survey.{MeetsZone}
use Rattle.load_run.proofs.survey.meet_each.Given as goal

abbrev pub invariant-loop-cpu : goal.invariant-loop-cpu
invariant-loop-cpu g l = SoFar (MeetsZone g.N.BootName.table) l.cpu-index l.fn.locked.machine l.fn.cpus l.locked.machine l.cpus
    × (l.locked.sizes ≡ l.fn.locked.sizes)
