use Rattle.group_protection.proofs.Sharing.{shares_add_up}
use Rattle.group_protection.proofs.laws.shares_add_up.Goals as goal

pub returns : goal.returns
returns c = shares_add_up
