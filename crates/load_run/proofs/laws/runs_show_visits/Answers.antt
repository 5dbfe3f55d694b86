use Rattle.load_run.proofs.Visited.{runs_show_visits}
use Rattle.load_run.proofs.laws.runs_show_visits.Goals as goal

pub returns : goal.returns
returns c = runs_show_visits
