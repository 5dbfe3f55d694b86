use Rattle.step_rules.proofs.Telling.{groups_follow_the_run}
use Rattle.step_rules.proofs.laws.groups_follow_the_run.Goals as goal

pub returns : goal.returns
returns c = groups_follow_the_run
