use Rattle.step_rules.proofs.LocalLaws.{other_step_is_hidden}
use Rattle.step_rules.proofs.laws.other_step.Goals as goal

pub returns : goal.returns
returns c = other_step_is_hidden
