use Rattle.mem_reclaim.specs.Rounds.{at_least}
use Rattle.mem_reclaim.proofs.Rounding.{RoundsSoFar}
use Rattle.mem_reclaim.proofs.rounds.reclaim_in_batches.Given as goal

abbrev pub invariant-loop-round : goal.invariant-loop-round
invariant-loop-round g l = RoundsSoFar g.N.BootName.table (at_least l.batch) l.group l.need l.limit l.fn.machine l.round l.freed l.machine
