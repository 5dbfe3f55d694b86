use Rattle.std.proofs.Common.{◌≡◌, take}
use Rattle.mem_system.specs.{parts_of, pins_of_all, EachPuts}
use Rattle.mem_system.proofs.puts.put_all_pins.Given as goal

abbrev pub invariant-loop-cpu : goal.invariant-loop-cpu
invariant-loop-cpu g l = (pins_of_all (parts_of (take l.cpu-index l.cpus)) ≡ 0) × EachPuts l.fn.cpus l.cpus
