use Rattle.step_rules.proofs.Telling.{parts_follow_the_run}
use Rattle.step_rules.proofs.laws.parts_follow_the_run.Goals as goal

pub returns : goal.returns
returns c = parts_follow_the_run
