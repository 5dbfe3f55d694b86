use Rattle.boot_words.proofs.Holding.{holder_goes_on}
use Rattle.boot_words.proofs.run_laws.holder_goes_on.Goals as goal

pub returns : goal.returns
returns c = holder_goes_on
