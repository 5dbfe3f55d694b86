use Rattle.step_rules.proofs.Interleaving.{local_runs_interleave}
use Rattle.step_rules.proofs.laws.local_runs_interleave.Goals as goal

pub returns : goal.returns
returns c = local_runs_interleave
