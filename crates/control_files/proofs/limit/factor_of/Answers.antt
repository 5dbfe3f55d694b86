use Rattle.control_files.specs.Limit.{factor_of}
use Rattle.std.proofs.Common.{rules}
use Rattle.control_files.proofs.limit.factor_of.Goals as goal

pub returns-in_default : goal.returns-in_default
unfolding factor_of
returns-in_default c = search rules
