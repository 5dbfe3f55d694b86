use Rattle.mem_machine.specs.Stocks.{test_of}
use Rattle.mem_machine.proofs.DrainingAll.{DrainedSoFar}
use Rattle.mem_machine.proofs.machine.Machine.drain_chosen.Given as goal

abbrev pub invariant-loop-place : goal.invariant-loop-place
invariant-loop-place g l = DrainedSoFar g.N.BootName.table (test_of l.fn.stocks) l.place l.pages l.fn.self l.self
