use Rattle.mem_machine.specs.Freeing.{FreesFrames}
use Rattle.mem_machine.proofs.freed.free_frames.Given as goal

abbrev pub invariant-loop-k : goal.invariant-loop-k
invariant-loop-k l = FreesFrames l.fn.at l.k l.fn.frame_states.items l.frame_states.items
