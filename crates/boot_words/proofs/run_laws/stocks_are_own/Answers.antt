use Rattle.boot_words.proofs.Draining.{stocks_are_own}
use Rattle.boot_words.proofs.run_laws.stocks_are_own.Goals as goal

pub returns : goal.returns
returns c = stocks_are_own
