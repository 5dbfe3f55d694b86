use Rattle.std.proofs.Common.{refl}
use Rattle.step_rules.proofs.SmallRuns.{life_is_legal}
use Rattle.step_rules.proofs.examples.the_life_of_a_frame_is_legal.Goals as goal

pub returns : goal.returns
returns c = record { legal = life_is_legal; frame_free = refl; lock_free = refl }
