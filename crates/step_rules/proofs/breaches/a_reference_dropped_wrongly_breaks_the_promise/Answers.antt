use Rattle.step_rules.proofs.Miscounting.{anothers_breaks, too_many_left_breaks, left_none_breaks, last_of_none_breaks, last_of_two_breaks}
use Rattle.step_rules.proofs.Miscounting.{frozen_elsewhere_breaks, frozen_too_many_breaks, frozen_none_breaks}
use Rattle.step_rules.proofs.breaches.a_reference_dropped_wrongly_breaks_the_promise.Goals as goal

pub returns : goal.returns
returns c = record {
  anothers = anothers_breaks;
  too_many_left = too_many_left_breaks;
  left_none = left_none_breaks;
  last_of_none = last_of_none_breaks;
  last_of_two = last_of_two_breaks;
  frozen_elsewhere = frozen_elsewhere_breaks;
  frozen_too_many = frozen_too_many_breaks;
  frozen_none = frozen_none_breaks;
}
