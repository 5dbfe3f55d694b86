use Rattle.step_rules.proofs.Breaking.{returned_unused_breaks, returned_in_use_breaks, returned_in_no_unit_breaks, returned_again_breaks, credited_again_breaks, credited_in_use_breaks}
use Rattle.step_rules.proofs.breaches.a_return_out_of_turn_breaks_the_promise.Goals as goal

pub returns : goal.returns
returns c = record { unused = returned_unused_breaks; in_use = returned_in_use_breaks; in_no_unit = returned_in_no_unit_breaks; again = returned_again_breaks; credited_again = credited_again_breaks; credited_in_use = credited_in_use_breaks }
