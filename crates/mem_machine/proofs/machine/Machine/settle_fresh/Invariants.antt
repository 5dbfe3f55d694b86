use Rattle.std.proofs.Common.{length}
use Rattle.mem_machine.proofs.Settled.{FreshSoFar}
use Rattle.mem_machine.proofs.machine.Machine.settle_fresh.Given as goal

abbrev pub decreases-loop-frame : goal.decreases-loop-frame
decreases-loop-frame g l = length l.cpu.fresh

abbrev pub invariant-loop-frame : goal.invariant-loop-frame
invariant-loop-frame g l = FreshSoFar g.N.BootName.table l.fn.self l.fn.cpu l.self l.cpu
