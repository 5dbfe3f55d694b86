use Rattle.mem_reclaim.proofs.Choosing.{CountedTo}
use Rattle.mem_reclaim.proofs.victims.count_candidates.Given as goal

abbrev pub invariant-loop-number : goal.invariant-loop-number
invariant-loop-number g l = CountedTo l.machine l.group l.number l.count
