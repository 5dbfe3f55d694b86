use Rattle.log_lines.proofs.BadLines.{bad_line_is_no_log}
use Rattle.log_lines.proofs.parse.bad_line_is_no_log.Goals as goal

pub returns : goal.returns
returns c = bad_line_is_no_log
