use Rattle.step_rules.proofs.Promising.{the_promise_is_kept}
use Rattle.step_rules.proofs.laws.the_promise_is_kept.Goals as goal

pub returns : goal.returns
returns c = the_promise_is_kept
