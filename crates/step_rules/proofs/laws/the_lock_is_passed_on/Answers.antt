use Rattle.step_rules.proofs.Seeing.{the_lock_is_passed_on}
use Rattle.step_rules.proofs.laws.the_lock_is_passed_on.Goals as goal

pub returns : goal.returns
returns c = the_lock_is_passed_on
