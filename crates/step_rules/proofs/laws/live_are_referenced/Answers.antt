use Rattle.step_rules.proofs.Living.{live_are_referenced}
use Rattle.step_rules.proofs.laws.live_are_referenced.Goals as goal

pub returns : goal.returns
returns c = live_are_referenced
