use Rattle.group_protection.proofs.Effective.{nothing_set}
use Rattle.group_protection.proofs.laws.nothing_set_protects_nothing.Goals as goal

pub returns : goal.returns
returns c = nothing_set
