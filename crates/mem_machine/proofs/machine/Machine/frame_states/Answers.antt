use Rattle.std.proofs.Common.{rules}
use Rattle.mem_machine.proofs.machine.Machine.frame_states.Goals as goal

pub returns-clause-frame_states : goal.returns-clause-frame_states
returns-clause-frame_states g c = search rules
