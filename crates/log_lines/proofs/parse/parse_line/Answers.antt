use Rattle.log_lines.proofs.Lines.{line_exact}
use Rattle.log_lines.proofs.parse.parse_line.Goals as goal

pub returns : goal.returns
returns c = line_exact c.args.text.now c.line_of.result c.line_of.ensures
