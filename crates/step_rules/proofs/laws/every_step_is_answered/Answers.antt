use Rattle.step_rules.proofs.Answered.{every_step_is_answered}
use Rattle.step_rules.proofs.laws.every_step_is_answered.Goals as goal

pub returns : goal.returns
returns c = every_step_is_answered
