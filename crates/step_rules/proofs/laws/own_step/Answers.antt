use Rattle.step_rules.proofs.LocalLaws.{own_step_is_legal}
use Rattle.step_rules.proofs.laws.own_step.Goals as goal

pub returns : goal.returns
returns c = own_step_is_legal
