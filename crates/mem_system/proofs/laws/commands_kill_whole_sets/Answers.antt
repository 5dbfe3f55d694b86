use Rattle.mem_system.proofs.KillLaws.{commands_kill_whole_sets}
use Rattle.mem_system.proofs.laws.commands_kill_whole_sets.Goals as goal

pub returns : goal.returns
returns c = commands_kill_whole_sets
