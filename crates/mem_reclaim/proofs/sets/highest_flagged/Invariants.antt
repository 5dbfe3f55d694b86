use Rattle.mem_reclaim.proofs.KilledRoots.{RootSoFar}
use Rattle.mem_reclaim.proofs.sets.highest_flagged.Given as goal

abbrev pub invariant-loop-above : goal.invariant-loop-above
invariant-loop-above l = RootSoFar l.tree l.fn.limited l.fn.victim l.killed_root l.above-iterator
