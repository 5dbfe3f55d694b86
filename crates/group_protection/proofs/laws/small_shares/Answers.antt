use Rattle.group_protection.proofs.SmallSharing.{small_shares}
use Rattle.group_protection.proofs.laws.small_shares.Goals as goal

pub returns : goal.returns
returns c = small_shares
