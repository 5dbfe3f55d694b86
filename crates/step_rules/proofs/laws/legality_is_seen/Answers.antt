use Rattle.step_rules.proofs.Seeing.{legality_is_seen}
use Rattle.step_rules.proofs.laws.legality_is_seen.Goals as goal

pub returns : goal.returns
returns c = legality_is_seen
