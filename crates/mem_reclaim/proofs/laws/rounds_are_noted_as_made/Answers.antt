use Rattle.mem_reclaim.proofs.Noted.{rounds_are_noted_as_made}
use Rattle.mem_reclaim.proofs.laws.rounds_are_noted_as_made.Goals as goal

pub returns : goal.returns
returns c = rounds_are_noted_as_made
