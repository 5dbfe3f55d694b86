use Rattle.mem_reclaim.proofs.Giving.{turns_leave_out_no_group}
use Rattle.mem_reclaim.proofs.laws.turns_leave_out_no_group.Goals as goal

pub returns : goal.returns
returns c = turns_leave_out_no_group
