use Rattle.std.proofs.Common.{◌≡◌, take}
use Rattle.std.specs.Prelude.{min, sum_by}
use Rattle.group_tree.specs.Room.{max_count}
use Rattle.mem_system.proofs.boot_end.count_drops.Given as goal

-- the drops of the CPUs so far are counted
abbrev pub invariant-loop-cpu : goal.invariant-loop-cpu
invariant-loop-cpu g l = l.drops ≡ min (sum_by (λ cpu. cpu.part.drops) (take l.cpu-index l.cpus)) max_count
