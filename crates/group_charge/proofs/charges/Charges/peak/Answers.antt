use Rattle.group_charge.specs.Charges.{peak_of}
use Rattle.std.proofs.Common.{rules}
use Rattle.group_charge.proofs.charges.Charges.peak.Goals as goal

pub returns : goal.returns
unfolding peak_of
returns c = search rules
