use Rattle.step_rules.proofs.SmallRuns.{unlocked_too_soon_is_refused}
use Rattle.step_rules.proofs.examples.an_early_unlock_is_illegal.Goals as goal

pub returns : goal.returns
returns c = unlocked_too_soon_is_refused
