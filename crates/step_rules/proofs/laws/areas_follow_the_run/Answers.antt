use Rattle.step_rules.proofs.Freeing.{areas_follow_the_run}
use Rattle.step_rules.proofs.laws.areas_follow_the_run.Goals as goal

pub returns : goal.returns
returns c = areas_follow_the_run
