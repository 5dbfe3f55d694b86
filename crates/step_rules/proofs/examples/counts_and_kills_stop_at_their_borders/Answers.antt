use Rattle.step_rules.proofs.SmallRuns.{borders_are_kept}
use Rattle.step_rules.proofs.examples.counts_and_kills_stop_at_their_borders.Goals as goal

pub returns : goal.returns
returns c = borders_are_kept
