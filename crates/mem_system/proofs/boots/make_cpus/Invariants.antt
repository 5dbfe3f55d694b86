use Rattle.std.proofs.Common.{◌≡◌, ◌+◌, ◌-◌, ◌≤◌}
use Rattle.std.specs.Vec.{vec_len, vec_capacity}
use Rattle.boot_words.specs.{IsAwayCpu, cpus_at_first, AllOf}
use Rattle.mem_system.specs.{first_cpus, first_pasts, parts_of, pasts_of}
use Rattle.mem_system.proofs.boots.make_cpus.Given as goal

-- the parts of the CPUs so far are made, and the seats of the others are left
abbrev pub invariant-loop-dealt : goal.invariant-loop-dealt
invariant-loop-dealt g l = record {
  room : l.cpus ≤ vec_capacity l.made;
  size : vec_len l.made ≡ l._dealt;
  seats : l.seats.items ≡ cpus_at_first g.N.BootName.table.table (l._dealt + 1) (l.cpus - l._dealt);
  away : AllOf (IsAwayCpu g.N.BootName.table) l.seats.items;
  parts : parts_of l.made.items ≡ first_cpus 1 l._dealt;
  pasts : pasts_of l.made.items ≡ first_pasts 1 l._dealt;
}
