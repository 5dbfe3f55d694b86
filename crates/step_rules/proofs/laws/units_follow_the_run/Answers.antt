use Rattle.step_rules.proofs.Uniting.{units_follow_the_run}
use Rattle.step_rules.proofs.laws.units_follow_the_run.Goals as goal

pub returns : goal.returns
returns c = units_follow_the_run
