use Rattle.std.proofs.Common.{rules}
use Rattle.mem_machine.proofs.frame_state.FrameState.place.Goals as goal

pub returns-in-Tail : goal.returns-in-Tail
returns-in-Tail c = search rules
