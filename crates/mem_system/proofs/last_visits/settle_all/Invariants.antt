use Rattle.std.proofs.Common.{take}
use Rattle.std.specs.Prelude.{All}
use Rattle.mem_system.specs.Ends.{SettlesInVisit, VisitsUnderLock, IsSettledUnpinned}
use Rattle.mem_machine.specs.Resting.{Rests}
use Rattle.mem_system.proofs.InTurns.{SoFar}
use Rattle.mem_system.proofs.last_visits.settle_all.Given as goal

abbrev pub invariant-loop-cpu : goal.invariant-loop-cpu
invariant-loop-cpu g l = SoFar (VisitsUnderLock g.N.BootName.table SettlesInVisit) l.cpu-index l.fn.machine l.fn.cpus l.machine l.cpus
    × All (λ cpu. IsSettledUnpinned cpu.part) (take l.cpu-index l.cpus) × Rests g.N.BootName.table l.machine
