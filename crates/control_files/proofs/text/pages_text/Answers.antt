use Rattle.std.proofs.Common.{rules}
use Rattle.control_files.proofs.text.pages_text.Goals as goal

pub returns : goal.returns
returns c = search rules
