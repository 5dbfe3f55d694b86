use Rattle.script_replay.proofs.Gaining.{all_lines_go_on}
use Rattle.script_replay.proofs.laws.all_lines_go_on.Goals as goal

pub returns : goal.returns
returns c = all_lines_go_on
