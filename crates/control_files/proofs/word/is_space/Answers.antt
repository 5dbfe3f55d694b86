use Rattle.std.proofs.Common.{rules}
use Rattle.control_files.proofs.word.is_space.Goals as goal

pub returns-in-32 : goal.returns-in-32
returns-in-32 c = search rules
