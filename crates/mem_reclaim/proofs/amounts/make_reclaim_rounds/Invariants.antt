use Rattle.group_charge.specs.Charges.{current_of}
use Rattle.mem_reclaim.proofs.Rounding.{RoundsSoFar}
use Rattle.mem_reclaim.proofs.amounts.make_reclaim_rounds.Given as goal

abbrev pub invariant-loop-round : goal.invariant-loop-round
invariant-loop-round g l =
    RoundsSoFar g.N.BootName.table (λ n. n) l.group l.asked (current_of l.fn.machine.ledger l.group) l.fn.machine l.round l.freed l.machine
