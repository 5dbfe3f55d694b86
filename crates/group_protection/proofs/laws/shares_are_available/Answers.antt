use Rattle.group_protection.proofs.Sharing.{shares_are_available}
use Rattle.group_protection.proofs.laws.shares_are_available.Goals as goal

pub returns : goal.returns
returns c = shares_are_available
