use Rattle.step_rules.proofs.Breaking.{consumed_nothing_breaks, consumed_in_a_unit_breaks, placed_on_a_tail_breaks, placed_smaller_breaks, placed_in_use_breaks, placed_ended_breaks, placed_for_nobody_breaks}
use Rattle.step_rules.proofs.breaches.a_second_use_breaks_the_promise.Goals as goal

pub returns : goal.returns
returns c = record { nothing = consumed_nothing_breaks; in_a_unit = consumed_in_a_unit_breaks; on_a_tail = placed_on_a_tail_breaks; smaller = placed_smaller_breaks; in_use = placed_in_use_breaks; ended = placed_ended_breaks; for_nobody = placed_for_nobody_breaks }
