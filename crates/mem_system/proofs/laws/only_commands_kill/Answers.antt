use Rattle.mem_system.proofs.CommandLaws.{only_commands_kill}
use Rattle.mem_system.proofs.laws.only_commands_kill.Goals as goal

pub returns : goal.returns
returns c = only_commands_kill
