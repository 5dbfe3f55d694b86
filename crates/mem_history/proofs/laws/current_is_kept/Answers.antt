use Rattle.mem_history.proofs.Currents.{current_is_kept}
use Rattle.mem_history.proofs.laws.current_is_kept.Goals as goal

pub returns : goal.returns
returns c = current_is_kept
