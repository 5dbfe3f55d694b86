use Rattle.step_rules.proofs.Returning.{every_frame_returns_once}
use Rattle.step_rules.proofs.laws.every_frame_returns_once.Goals as goal

pub returns : goal.returns
returns c = every_frame_returns_once
