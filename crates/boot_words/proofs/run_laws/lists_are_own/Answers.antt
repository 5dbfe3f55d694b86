use Rattle.boot_words.proofs.Owning.{lists_are_own}
use Rattle.boot_words.proofs.run_laws.lists_are_own.Goals as goal

pub returns : goal.returns
returns c = lists_are_own
