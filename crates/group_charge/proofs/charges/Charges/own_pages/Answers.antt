use Rattle.group_charge.specs.Charges.{pages_of}
use Rattle.std.proofs.Common.{rules}
use Rattle.group_charge.proofs.charges.Charges.own_pages.Goals as goal

pub returns : goal.returns
unfolding pages_of
returns c = search rules
