use Rattle.std.proofs.Common.{rules}
use Rattle.group_charge.proofs.charges.new_account.Goals as goal

pub returns : goal.returns
returns c = search rules
