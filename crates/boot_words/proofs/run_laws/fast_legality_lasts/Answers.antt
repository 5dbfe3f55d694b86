use Rattle.boot_words.proofs.Lasting.{fast_legality_lasts}
use Rattle.boot_words.proofs.run_laws.fast_legality_lasts.Goals as goal

pub returns : goal.returns
returns c = fast_legality_lasts
