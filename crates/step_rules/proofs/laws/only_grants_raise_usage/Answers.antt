use Rattle.step_rules.proofs.Peaking.{only_grants_raise_usage}
use Rattle.step_rules.proofs.laws.only_grants_raise_usage.Goals as goal

pub returns : goal.returns
returns c = only_grants_raise_usage
