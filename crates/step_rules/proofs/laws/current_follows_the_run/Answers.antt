use Rattle.step_rules.proofs.Adding.{current_follows_the_run}
use Rattle.step_rules.proofs.laws.current_follows_the_run.Goals as goal

pub returns : goal.returns
returns c = current_follows_the_run
