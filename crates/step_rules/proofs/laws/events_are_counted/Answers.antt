use Rattle.step_rules.proofs.Noting.{events_are_counted}
use Rattle.step_rules.proofs.laws.events_are_counted.Goals as goal

pub returns : goal.returns
returns c = events_are_counted
