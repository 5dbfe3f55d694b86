-- The walk goes up the path, past groups whose memory.high has room.
use Rattle.group_tree.proofs.Walks.{WalkLeft}
use Rattle.mem_alloc.specs.High.{has_high_room}
use Rattle.mem_alloc.proofs.high.path_has_high_room.Given as goal

abbrev pub invariant-loop-above : goal.invariant-loop-above
invariant-loop-above l = WalkLeft l.charges.groups (λ m. has_high_room l.charges m l.pages) l.fn.group l.above-iterator
