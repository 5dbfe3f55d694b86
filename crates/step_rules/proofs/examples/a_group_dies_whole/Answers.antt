use Rattle.step_rules.proofs.GroupRuns.{whole_run_is_legal, flags_given, counted_whole, counted_above, whole_anew}
use Rattle.step_rules.proofs.examples.a_group_dies_whole.Goals as goal

pub returns : goal.returns
returns c = record { legal = whole_run_is_legal; flag = flags_given; at_group = counted_whole; above = counted_above; anew = whole_anew }
