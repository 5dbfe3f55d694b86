use Rattle.std.proofs.Common.{rules}
use Rattle.control_files.proofs.limit.limit_of.Goals as goal

pub returns : goal.returns
returns c = search rules
