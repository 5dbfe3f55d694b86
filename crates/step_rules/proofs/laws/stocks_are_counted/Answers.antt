use Rattle.step_rules.proofs.Counting.{stocks_are_counted}
use Rattle.step_rules.proofs.laws.stocks_are_counted.Goals as goal

pub returns : goal.returns
returns c = stocks_are_counted
