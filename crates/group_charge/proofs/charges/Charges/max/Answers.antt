use Rattle.std.proofs.Common.{rules}
use Rattle.group_charge.proofs.charges.Charges.max.Goals as goal

pub returns : goal.returns
returns c = search rules
