use Rattle.group_charge.specs.Charges.{events_local_of}
use Rattle.std.proofs.Common.{rules}
use Rattle.group_charge.proofs.charges.Charges.events_local.Goals as goal

pub returns : goal.returns
unfolding events_local_of
returns c = search rules
