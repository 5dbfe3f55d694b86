use Rattle.step_rules.proofs.Publishing.{published_is_kept}
use Rattle.step_rules.proofs.laws.published_is_kept.Goals as goal

pub returns : goal.returns
returns c = published_is_kept
