use Rattle.mem_machine.proofs.Many.{LentSoFar}
use Rattle.mem_machine.proofs.machine.Machine.refill.Given as goal

abbrev pub invariant-loop-lent : goal.invariant-loop-lent
invariant-loop-lent g l = LentSoFar g.N.BootName.table l.lent l.fn.self l.fn.cpu l.self l.cpu
