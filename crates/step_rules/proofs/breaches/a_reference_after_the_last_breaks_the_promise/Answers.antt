use Rattle.step_rules.proofs.Breaking.{given_after_the_last_breaks, put_after_the_last_breaks, frozen_after_the_last_breaks, unfrozen_in_no_unit_breaks, unfrozen_in_use_breaks}
use Rattle.step_rules.proofs.breaches.a_reference_after_the_last_breaks_the_promise.Goals as goal

pub returns : goal.returns
returns c = record { given = given_after_the_last_breaks; put = put_after_the_last_breaks; frozen = frozen_after_the_last_breaks; in_no_unit = unfrozen_in_no_unit_breaks; in_use = unfrozen_in_use_breaks }
