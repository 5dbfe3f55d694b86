use Rattle.step_rules.proofs.SmallRuns.{returned_twice_is_refused}
use Rattle.step_rules.proofs.examples.a_second_return_is_illegal.Goals as goal

pub returns : goal.returns
returns c = returned_twice_is_refused
