use Rattle.std.proofs.Common.{◌≡◌, length}
use Rattle.bench.proofs.system.end.Given as goal

abbrev pub invariant-loop : goal.invariant-loop
invariant-loop g l = length l.cpus.items ≡ g.N.BootName.table.cpus
