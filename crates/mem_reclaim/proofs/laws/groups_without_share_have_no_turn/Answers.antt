use Rattle.mem_reclaim.proofs.Giving.{groups_without_share_have_no_turn}
use Rattle.mem_reclaim.proofs.laws.groups_without_share_have_no_turn.Goals as goal

pub returns : goal.returns
returns c = groups_without_share_have_no_turn
