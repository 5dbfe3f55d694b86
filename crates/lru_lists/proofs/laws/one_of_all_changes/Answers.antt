use Rattle.lru_lists.proofs.Pairs.{one_of_all_changes}
use Rattle.lru_lists.proofs.laws.one_of_all_changes.Goals as goal

pub returns : goal.returns
returns c = one_of_all_changes
