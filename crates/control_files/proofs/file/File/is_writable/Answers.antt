use Rattle.std.proofs.Common.{rules}
use Rattle.control_files.proofs.file.File.is_writable.Goals as goal

pub returns : goal.returns
returns c = search rules
