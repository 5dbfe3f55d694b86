use Rattle.script_lint.proofs.Judging.{line_of_go, no_line}
use Rattle.script_lint.proofs.refused.judge_text.Goals as goal

pub returns-in_default : goal.returns-in_default
returns-in_default c texts knows = no_line c.args.sizes.now texts c.args.text.now (rw c.in_default.is at c.parse_line.ensures)

pub returns-in-Go : goal.returns-in-Go
returns-in-Go c texts knows = line_of_go c.args.sizes.now texts c.args.text.now (rw c.in-Go.is at c.in-Some.ensures)
