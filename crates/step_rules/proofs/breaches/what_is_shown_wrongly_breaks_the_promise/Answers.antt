use Rattle.step_rules.proofs.ShownStates.{nowhere_is_wrong, twice_is_wrong, listed_twice_is_wrong, by_nobody_is_wrong, in_no_unit_is_wrong}
use Rattle.step_rules.proofs.ShownStates.{beyond_is_wrong, for_nobody_is_wrong, left_out_is_wrong, no_group_is_wrong}
use Rattle.step_rules.proofs.ShownStates.{too_many_is_wrong, never_set_is_wrong}
use Rattle.step_rules.proofs.breaches.what_is_shown_wrongly_breaks_the_promise.Goals as goal

pub returns : goal.returns
returns c = record {
  nowhere = nowhere_is_wrong;
  twice = twice_is_wrong;
  listed_twice = listed_twice_is_wrong;
  by_nobody = by_nobody_is_wrong;
  in_no_unit = in_no_unit_is_wrong;
  beyond = beyond_is_wrong;
  for_nobody = for_nobody_is_wrong;
  left_out = left_out_is_wrong;
  no_group = no_group_is_wrong;
  too_many = too_many_is_wrong;
  never_set = never_set_is_wrong;
}
