use Rattle.lru_lists.proofs.Pairs.{others_stay_linked}
use Rattle.lru_lists.proofs.laws.others_stay_linked.Goals as goal

pub returns : goal.returns
returns c = others_stay_linked
