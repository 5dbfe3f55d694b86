use Rattle.boot_words.proofs.Gaining.{a_boot_has_no_steps}
use Rattle.boot_words.proofs.growth.a_boot_has_no_steps.Goals as goal

pub returns : goal.returns
returns c = a_boot_has_no_steps
