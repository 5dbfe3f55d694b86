use Rattle.step_rules.proofs.LentTo.{frames_are_lent}
use Rattle.step_rules.proofs.laws.frames_are_lent_to_cpus.Goals as goal

pub returns : goal.returns
returns c = frames_are_lent
