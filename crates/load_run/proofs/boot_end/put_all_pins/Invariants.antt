use Rattle.std.proofs.Common.{◌≡◌}
use Rattle.mem_system.proofs.InTurns.{SoFar}
use Rattle.load_run.specs.Ending.{PutsAllPins}
use Rattle.load_run.proofs.boot_end.put_all_pins.Given as goal

abbrev pub invariant-loop-cpu : goal.invariant-loop-cpu
invariant-loop-cpu g l = SoFar PutsAllPins l.cpu-index l.fn.locked.machine l.fn.cpus l.locked.machine l.cpus × (l.locked.sizes ≡ l.fn.locked.sizes)
