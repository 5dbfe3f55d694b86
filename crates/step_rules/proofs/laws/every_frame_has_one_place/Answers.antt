use Rattle.step_rules.proofs.Placed.{every_frame_has_one_place}
use Rattle.step_rules.proofs.laws.every_frame_has_one_place.Goals as goal

pub returns : goal.returns
returns c = every_frame_has_one_place
