use Rattle.boot_words.proofs.Stepping.{words_follow}
use Rattle.boot_words.proofs.run_laws.words_follow.Goals as goal

pub returns : goal.returns
returns c = words_follow
