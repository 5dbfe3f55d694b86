use Rattle.mem_reclaim.proofs.Noted.{missed_units_were_tried}
use Rattle.mem_reclaim.proofs.laws.missed_units_were_tried.Goals as goal

pub returns : goal.returns
returns c = missed_units_were_tried
