use Rattle.step_rules.proofs.Counting.{references_are_counted}
use Rattle.step_rules.proofs.laws.references_are_counted.Goals as goal

pub returns : goal.returns
returns c = references_are_counted
