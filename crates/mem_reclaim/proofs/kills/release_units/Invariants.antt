use Rattle.mem_reclaim.proofs.LettingGo.{LetGoSoFar}
use Rattle.mem_reclaim.proofs.kills.release_units.Given as goal

abbrev pub invariant-loop-unit : goal.invariant-loop-unit
invariant-loop-unit g l = LetGoSoFar g.N.BootName.table l.group l.list l.fn.machine l._unit l.machine
