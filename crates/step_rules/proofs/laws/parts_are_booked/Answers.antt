use Rattle.step_rules.proofs.Booking.{parts_are_booked}
use Rattle.step_rules.proofs.laws.parts_are_booked.Goals as goal

pub returns : goal.returns
returns c = parts_are_booked
