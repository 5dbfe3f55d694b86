use Rattle.group_charge.specs.Charges.{events_of}
use Rattle.std.proofs.Common.{rules}
use Rattle.group_charge.proofs.charges.Charges.events.Goals as goal

pub returns : goal.returns
unfolding events_of
returns c = search rules
