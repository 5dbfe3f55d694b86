use Rattle.mem_system.proofs.Lost.{no_unit_is_lost}
use Rattle.mem_system.proofs.laws.no_unit_is_lost.Goals as goal

pub returns : goal.returns
returns c = no_unit_is_lost
