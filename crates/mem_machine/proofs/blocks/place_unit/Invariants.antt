use Rattle.mem_machine.proofs.PlacesUnits.{TailsTo}
use Rattle.mem_machine.proofs.blocks.place_unit.Given as goal

-- the frames so far are tails
abbrev pub invariant-loop-frame : goal.invariant-loop-frame
invariant-loop-frame l = TailsTo l.fn.frame_states.items l.first l.group l.frame l.frame_states.items
