use Rattle.boot_words.proofs.Booting.{a_boot_has_words}
use Rattle.boot_words.proofs.run_laws.a_boot_has_words.Goals as goal

pub returns : goal.returns
returns c = a_boot_has_words
