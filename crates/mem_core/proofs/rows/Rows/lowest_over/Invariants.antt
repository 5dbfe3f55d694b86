-- The walk goes up the path, past groups with room.
use Rattle.group_tree.proofs.Walks.{WalkLeft}
use Rattle.group_tree.specs.Room.{has_room}
use Rattle.step_rules.specs.Usage.{usage_of}
use Rattle.mem_core.specs.Rows.{state_in}
use Rattle.mem_core.proofs.rows.Rows.lowest_over.Given as goal

abbrev pub invariant-loop-above : goal.invariant-loop-above
invariant-loop-above l = WalkLeft l.self.tree (λ m. has_room l.self.tree (usage_of (state_in l.self)) m l.pages) l.fn.group l.above-iterator
