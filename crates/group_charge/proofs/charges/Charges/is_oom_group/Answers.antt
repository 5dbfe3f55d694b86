use Rattle.std.proofs.Common.{rules}
use Rattle.group_charge.proofs.charges.Charges.is_oom_group.Goals as goal

pub returns : goal.returns
returns c = search rules
