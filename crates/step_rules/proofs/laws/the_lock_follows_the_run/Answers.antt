use Rattle.step_rules.proofs.Telling.{the_lock_follows_the_run}
use Rattle.step_rules.proofs.laws.the_lock_follows_the_run.Goals as goal

pub returns : goal.returns
returns c = the_lock_follows_the_run
