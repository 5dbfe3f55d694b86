use Rattle.mem_machine.specs.Stocks.{IsDrained}
use Rattle.mem_alloc.proofs.Lowering.{all_usages}
use Rattle.mem_alloc.proofs.Making.{RoomSoFar}
use Rattle.mem_alloc.proofs.charging.fill_one.Given as goal

abbrev pub invariant-tries : goal.invariant-tries
invariant-tries g l = RoomSoFar g.N.BootName.table l.group 1 l.fn.cpu l.fn.machine l.machine × IsDrained g.N.BootName.table l.machine l.fn.cpu.number

abbrev pub decreases-tries : goal.decreases-tries
decreases-tries g l = all_usages l.machine
