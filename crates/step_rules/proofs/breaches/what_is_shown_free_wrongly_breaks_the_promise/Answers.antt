use Rattle.step_rules.proofs.ShownStates.{parted_is_wrong, by_no_cpu_is_wrong, for_no_group_is_wrong, lost_is_wrong, lost_in_number_is_wrong}
use Rattle.step_rules.proofs.breaches.what_is_shown_free_wrongly_breaks_the_promise.Goals as goal

pub returns : goal.returns
returns c = record {
  parted = parted_is_wrong;
  by_nobody = by_no_cpu_is_wrong;
  for_no_group = for_no_group_is_wrong;
  lost = lost_is_wrong;
  lost_in_number = lost_in_number_is_wrong;
}
