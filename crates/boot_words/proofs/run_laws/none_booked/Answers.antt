use Rattle.boot_words.proofs.Returning.{none_booked}
use Rattle.boot_words.proofs.run_laws.none_booked.Goals as goal

pub returns : goal.returns
returns c = none_booked
