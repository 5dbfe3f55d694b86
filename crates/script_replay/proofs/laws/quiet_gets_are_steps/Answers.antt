use Rattle.script_replay.proofs.Gets.{quiet_gets_are_steps}
use Rattle.script_replay.proofs.laws.quiet_gets_are_steps.Goals as goal

pub returns : goal.returns
returns c = quiet_gets_are_steps
