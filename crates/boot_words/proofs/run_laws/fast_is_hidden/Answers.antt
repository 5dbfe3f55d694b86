use Rattle.boot_words.proofs.Hiding.{fast_is_hidden}
use Rattle.boot_words.proofs.run_laws.fast_is_hidden.Goals as goal

pub returns : goal.returns
returns c = fast_is_hidden
