use Rattle.mem_reclaim.specs.Victim.{may_be_chosen}
use Rattle.mem_reclaim.proofs.Choosing.{BestBelow}
use Rattle.mem_reclaim.proofs.victims.most_charged.Given as goal

abbrev pub invariant-loop-number : goal.invariant-loop-number
invariant-loop-number g l = BestBelow l.machine (may_be_chosen l.machine l.group l.excluded) l.number l.best l.most
