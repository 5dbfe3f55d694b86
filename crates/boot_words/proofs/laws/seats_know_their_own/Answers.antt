use Rattle.boot_words.proofs.Hands.{seats_know_their_own}
use Rattle.boot_words.proofs.laws.seats_know_their_own.Goals as goal

pub returns : goal.returns
returns c = seats_know_their_own
