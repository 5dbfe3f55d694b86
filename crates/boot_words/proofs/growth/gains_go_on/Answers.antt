use Rattle.boot_words.proofs.Gaining.{gains_go_on}
use Rattle.boot_words.proofs.growth.gains_go_on.Goals as goal

pub returns : goal.returns
returns c = gains_go_on
