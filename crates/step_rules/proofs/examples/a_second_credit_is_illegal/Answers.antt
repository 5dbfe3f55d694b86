use Rattle.step_rules.proofs.SmallRuns.{credited_twice_is_refused}
use Rattle.step_rules.proofs.examples.a_second_credit_is_illegal.Goals as goal

pub returns : goal.returns
returns c = credited_twice_is_refused
