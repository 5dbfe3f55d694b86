use Rattle.std.proofs.Common.{◌≡◌, ◌+◌, ◌≤◌, ◌++◌, length, map, All}
use Rattle.std.specs.Vec.{vec_len, vec_capacity}
use Rattle.boot_words.specs.Rule.{AllOf}
use Rattle.cpu_part.specs.Cpus.{IsIdle}
use Rattle.mem_system.specs.Cpus.{KnowsItself, seat_of}
use Rattle.mem_system.proofs.emptied_boot.gather_seats.Given as goal

-- the seats of the CPUs so far are gathered, there is room for the others', and these have nothing left
abbrev pub invariant-loop-seats : goal.invariant-loop-seats
invariant-loop-seats g l = record {
  idle : All (λ cpu. IsIdle cpu.part) l.cpus.items;
  room : vec_len l.seats + length l.cpus.items ≤ vec_capacity l.seats;
  seats : l.seats.items ++ map seat_of l.cpus.items ≡ map seat_of l.initial.cpus.items;
  knows : AllOf (KnowsItself g.N.BootName.table) l.cpus.items → AllOf (KnowsItself g.N.BootName.table) l.initial.cpus.items;
}

abbrev pub decreases-loop-seats : goal.decreases-loop-seats
decreases-loop-seats g l = goal.left-loop-seats g l
