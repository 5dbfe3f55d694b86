use Rattle.log_lines.proofs.Logs.{same_log}
use Rattle.log_lines.proofs.parse.one_run.Goals as goal

pub returns : goal.returns
returns c = same_log
