use Rattle.mem_reclaim.proofs.KillSets.{KilledSoFar}
use Rattle.mem_reclaim.proofs.kills.kill_below.Given as goal

abbrev pub invariant-loop-number : goal.invariant-loop-number
invariant-loop-number g l = KilledSoFar g.N.BootName.table l.limited l.killed_root l.fn.machine l.number l.machine
