use Rattle.group_protection.proofs.Sharing.{shares_are_in_proportion}
use Rattle.group_protection.proofs.laws.shares_are_in_proportion.Goals as goal

pub returns : goal.returns
returns c = shares_are_in_proportion
