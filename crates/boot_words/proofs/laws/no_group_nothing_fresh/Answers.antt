use Rattle.boot_words.proofs.Groupless.{no_group_nothing_fresh}
use Rattle.boot_words.proofs.laws.no_group_nothing_fresh.Goals as goal

pub returns : goal.returns
returns c = no_group_nothing_fresh
