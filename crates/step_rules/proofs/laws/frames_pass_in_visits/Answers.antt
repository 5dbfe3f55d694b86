use Rattle.step_rules.proofs.LentTo.{frames_pass}
use Rattle.step_rules.proofs.laws.frames_pass_in_visits.Goals as goal

pub returns : goal.returns
returns c = frames_pass
