use Rattle.step_rules.proofs.Granting.{pending_is_counted}
use Rattle.step_rules.proofs.laws.pending_is_counted.Goals as goal

pub returns : goal.returns
returns c = pending_is_counted
