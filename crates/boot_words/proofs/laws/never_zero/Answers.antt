use Rattle.boot_words.proofs.Counts.{never_zero}
use Rattle.boot_words.proofs.laws.never_zero.Goals as goal

pub returns : goal.returns
returns c = never_zero
