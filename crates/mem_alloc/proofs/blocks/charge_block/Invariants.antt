use Rattle.std.proofs.Common.{◌≡◌, ◌^◌}
use Rattle.mem_alloc.proofs.Lowering.{all_usages}
use Rattle.mem_alloc.proofs.Making.{RoomSoFar}
use Rattle.mem_alloc.proofs.blocks.charge_block.Given as goal

abbrev pub invariant-tries : goal.invariant-tries
invariant-tries g l = RoomSoFar g.N.BootName.table l.group (2 ^ l.order) l.fn.cpu l.fn.machine l.machine × (l.cpu ≡ l.fn.cpu)

abbrev pub decreases-tries : goal.decreases-tries
decreases-tries g l = all_usages l.machine
