use Rattle.std.proofs.Common.{◌≡◌, length}
use Rattle.mem_system.specs.Ends.{machine_and_cpu}
use Rattle.load_run.proofs.Putting.{PutSoFar}
use Rattle.load_run.proofs.boot_end.put_pins.Given as goal

abbrev pub invariant-loop-frame : goal.invariant-loop-frame
invariant-loop-frame g l = PutSoFar (machine_and_cpu l.initial.locked.machine l.initial.cpu) (machine_and_cpu l.locked.machine l.cpu)
    × (l.locked.sizes ≡ l.initial.locked.sizes)

abbrev pub decreases-loop-frame : goal.decreases-loop-frame
decreases-loop-frame g l = length l.cpu.part.pins
