use Rattle.std.proofs.Common.{◌≡◌, ◌≤◌, ◌*◌, length, take}
use Rattle.std.specs.Prelude.{sum_by}
use Rattle.mem_system.proofs.boot_end.count_pins.Given as goal

-- the pins of the CPUs so far are counted, at most 256 of each
abbrev pub invariant-loop-cpu : goal.invariant-loop-cpu
invariant-loop-cpu g l = (l.pins ≡ sum_by (λ cpu. length cpu.part.pins) (take l.cpu-index l.cpus)) × (l.pins ≤ 256 * l.cpu-index)
