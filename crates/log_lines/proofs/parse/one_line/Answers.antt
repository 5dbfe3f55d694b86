use Rattle.log_lines.proofs.Lines.{same_line}
use Rattle.log_lines.proofs.parse.one_line.Goals as goal

pub returns : goal.returns
returns c = same_line
