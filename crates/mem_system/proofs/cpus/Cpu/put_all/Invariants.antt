use Rattle.std.proofs.Common.{length}
use Rattle.mem_system.specs.Puts.{PutsPins}
use Rattle.mem_system.proofs.cpus.Cpu.put_all.Given as goal

abbrev pub invariant-loop-frame : goal.invariant-loop-frame
invariant-loop-frame g l = PutsPins l.initial.self l.self

abbrev pub decreases-loop-frame : goal.decreases-loop-frame
decreases-loop-frame g l = length l.self.part.pins
