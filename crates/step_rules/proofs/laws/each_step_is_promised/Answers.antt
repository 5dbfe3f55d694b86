use Rattle.step_rules.proofs.Promising.{each_step_is_promised}
use Rattle.step_rules.proofs.laws.each_step_is_promised.Goals as goal

pub returns : goal.returns
returns c = each_step_is_promised
