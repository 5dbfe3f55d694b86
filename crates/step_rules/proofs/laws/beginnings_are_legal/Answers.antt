use Rattle.step_rules.proofs.LentTo.{beginnings_are_legal}
use Rattle.step_rules.proofs.laws.beginnings_are_legal.Goals as goal

pub returns : goal.returns
returns c = beginnings_are_legal
