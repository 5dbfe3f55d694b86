use Rattle.mem_reclaim.proofs.Giving.{turns_keep_to_their_share}
use Rattle.mem_reclaim.proofs.laws.turns_keep_to_their_share.Goals as goal

pub returns : goal.returns
returns c = turns_keep_to_their_share
