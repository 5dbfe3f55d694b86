use Rattle.mem_reclaim.proofs.FewMore.{turns_of_frames_leave_min}
use Rattle.mem_reclaim.proofs.laws.turns_of_frames_leave_min.Goals as goal

pub returns : goal.returns
returns c = turns_of_frames_leave_min
