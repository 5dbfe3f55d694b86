use Rattle.step_watch.proofs.Watching.{watches_both}
use Rattle.step_watch.proofs.laws.watched_runs_compose.Goals as goal

pub returns : goal.returns
returns c = watches_both
