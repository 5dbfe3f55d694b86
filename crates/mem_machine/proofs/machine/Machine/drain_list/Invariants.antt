use Rattle.mem_machine.proofs.Many.{TakenSoFar}
use Rattle.mem_machine.proofs.machine.Machine.drain_list.Given as goal

abbrev pub invariant-loop-taken : goal.invariant-loop-taken
invariant-loop-taken g l = TakenSoFar g.N.BootName.table l.taken l.fn.self l.fn.cpu l.self l.cpu
