use Rattle.mem_system.proofs.KillLaws.{commands_kill_over_limits}
use Rattle.mem_system.proofs.laws.commands_kill_over_limits.Goals as goal

pub returns : goal.returns
returns c = commands_kill_over_limits
