use Rattle.mem_alloc.proofs.HighRooms.{HighSoFar, left_above}
use Rattle.mem_alloc.proofs.high.keep_path_to_high.Given as goal

abbrev pub invariant-loop-next : goal.invariant-loop-next
invariant-loop-next g l = HighSoFar g.N.BootName.table l.fn.group l.fn.need l.fn.machine l.next l.machine

abbrev pub decreases-loop-next : goal.decreases-loop-next
decreases-loop-next g l = left_above l.fn.machine.ledger.groups l.next
