use Rattle.step_rules.proofs.Miscounting.{free_breaks, returned_breaks, unreferred_breaks, nobody_breaks, past_255_breaks, in_no_unit_breaks, zero_breaks, full_breaks}
use Rattle.step_rules.proofs.breaches.a_reference_given_wrongly_breaks_the_promise.Goals as goal

pub returns : goal.returns
returns c = record {
  free = free_breaks;
  returned = returned_breaks;
  unreferred = unreferred_breaks;
  nobody = nobody_breaks;
  past_255 = past_255_breaks;
  in_no_unit = in_no_unit_breaks;
  zero = zero_breaks;
  full = full_breaks;
}
