use Rattle.step_rules.proofs.Peaking.{peaks_are_kept}
use Rattle.step_rules.proofs.laws.peaks_are_kept.Goals as goal

pub returns : goal.returns
returns c = peaks_are_kept
