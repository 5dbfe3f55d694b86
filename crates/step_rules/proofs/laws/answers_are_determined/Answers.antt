use Rattle.step_rules.proofs.Answering.{answers_are_determined}
use Rattle.step_rules.proofs.laws.answers_are_determined.Goals as goal

pub returns : goal.returns
returns c = answers_are_determined
