use Rattle.script_replay.proofs.Keeping.{legal_lines_keep_it}
use Rattle.script_replay.proofs.laws.legal_lines_keep_it.Goals as goal

pub returns : goal.returns
returns c = legal_lines_keep_it
