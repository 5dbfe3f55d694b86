use Rattle.step_rules.proofs.Keeping.{keepers_are_there}
use Rattle.step_rules.proofs.laws.keepers_are_there.Goals as goal

pub returns : goal.returns
returns c = keepers_are_there
