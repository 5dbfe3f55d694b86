use Rattle.mem_reclaim.proofs.Alive.{AliveTo}
use Rattle.mem_reclaim.proofs.victims.count_alive.Given as goal

abbrev pub invariant-loop-number : goal.invariant-loop-number
invariant-loop-number g l = AliveTo l.machine l.group l.number l.count
