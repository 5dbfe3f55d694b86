use Rattle.script_replay.proofs.Keeping.{legal_lines_are_shown}
use Rattle.script_replay.proofs.laws.legal_lines_are_shown.Goals as goal

pub returns : goal.returns
returns c = legal_lines_are_shown
