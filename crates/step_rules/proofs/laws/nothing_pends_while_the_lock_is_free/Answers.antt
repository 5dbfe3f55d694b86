use Rattle.step_rules.proofs.Settling.{nothing_pends}
use Rattle.step_rules.proofs.laws.nothing_pends_while_the_lock_is_free.Goals as goal

pub returns : goal.returns
returns c = nothing_pends
