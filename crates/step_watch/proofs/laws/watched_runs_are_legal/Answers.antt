use Rattle.step_watch.proofs.Watching.{watched_runs_are_legal}
use Rattle.step_watch.proofs.laws.watched_runs_are_legal.Goals as goal

pub returns : goal.returns
returns c = watched_runs_are_legal
