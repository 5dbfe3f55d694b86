use Rattle.step_rules.proofs.SmallRuns.{line_is_kept}
use Rattle.step_rules.proofs.examples.only_the_front_passes_back.Goals as goal

pub returns : goal.returns
returns c = line_is_kept
