use Rattle.boot_words.proofs.Showing.{holder_sees_both}
use Rattle.boot_words.proofs.run_laws.holder_sees_both.Goals as goal

pub returns : goal.returns
returns c = holder_sees_both
