use Rattle.mem_reclaim.proofs.Dying.{flagged_die_whole}
use Rattle.mem_reclaim.proofs.laws.flagged_groups_die_whole.Goals as goal

pub returns : goal.returns
returns c = flagged_die_whole
