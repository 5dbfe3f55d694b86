use Rattle.boot_words.proofs.Plain.{plain_steps_keep_words}
use Rattle.boot_words.proofs.run_laws.plain_steps_keep_words.Goals as goal

pub returns : goal.returns
returns c = plain_steps_keep_words
