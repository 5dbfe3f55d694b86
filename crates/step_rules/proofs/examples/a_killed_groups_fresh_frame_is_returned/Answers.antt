use Rattle.std.proofs.Common.{refl}
use Rattle.step_rules.proofs.SmallRuns.{returned_when_killed_is_legal}
use Rattle.step_rules.proofs.examples.a_killed_groups_fresh_frame_is_returned.Goals as goal

pub returns : goal.returns
returns c = record { legal = returned_when_killed_is_legal; frame_free = refl }
