use Rattle.load_run.proofs.Visited.{runs_show_finds}
use Rattle.load_run.proofs.laws.runs_show_finds.Goals as goal

pub returns : goal.returns
returns c = runs_show_finds
