use Rattle.step_rules.proofs.Granting.{no_grant_passes_a_limit}
use Rattle.step_rules.proofs.laws.no_grant_passes_a_limit.Goals as goal

pub returns : goal.returns
returns c = no_grant_passes_a_limit
