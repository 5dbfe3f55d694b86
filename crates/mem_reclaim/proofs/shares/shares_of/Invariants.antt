use Rattle.mem_reclaim.proofs.Giving.{GivesSoFar}
use Rattle.mem_reclaim.proofs.shares.shares_of.Given as goal

abbrev pub invariant-loop-number : goal.invariant-loop-number
invariant-loop-number g l = GivesSoFar l.fn.machine l.fn.target l.number l.available
