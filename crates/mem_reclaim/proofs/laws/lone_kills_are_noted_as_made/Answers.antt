use Rattle.mem_reclaim.proofs.Noted.{lone_kills_are_noted_as_made}
use Rattle.mem_reclaim.proofs.laws.lone_kills_are_noted_as_made.Goals as goal

pub returns : goal.returns
returns c = lone_kills_are_noted_as_made
