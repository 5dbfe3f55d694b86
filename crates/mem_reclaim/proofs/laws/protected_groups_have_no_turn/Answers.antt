use Rattle.mem_reclaim.proofs.Noted.{protected_groups_have_no_turn}
use Rattle.mem_reclaim.proofs.laws.protected_groups_have_no_turn.Goals as goal

pub returns : goal.returns
returns c = protected_groups_have_no_turn
