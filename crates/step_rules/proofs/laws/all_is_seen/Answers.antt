use Rattle.step_rules.proofs.Seeing.{all_is_seen}
use Rattle.step_rules.proofs.laws.all_is_seen.Goals as goal

pub returns : goal.returns
returns c = all_is_seen
