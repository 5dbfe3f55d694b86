use Rattle.std.proofs.Common.{refl}
use Rattle.step_rules.proofs.GroupRuns.{group_run_is_legal, noted_above, counted_anew, noted_at_last}
use Rattle.step_rules.proofs.examples.a_group_comes_and_goes.Goals as goal

pub returns : goal.returns
returns c = record { legal = group_run_is_legal; killed = refl; above = noted_above; anew = counted_anew; noted = noted_at_last }
