use Rattle.std.specs.Prelude.{All}
use Rattle.cpu_part.specs.Cpus.{IsIdle}
use Rattle.mem_system.proofs.boots.take_apart.Given as goal

-- nothing is left in the parts that are not spent yet
abbrev pub invariant-loop-cpu : goal.invariant-loop-cpu
invariant-loop-cpu g l = All (λ cpu. IsIdle cpu.part) l.cpus.items

abbrev pub decreases-loop-cpu : goal.decreases-loop-cpu
decreases-loop-cpu g l = goal.left-loop-cpu g l
