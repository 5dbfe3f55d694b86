use Rattle.std.proofs.Common.{rules}
use Rattle.mem_system.proofs.booting.boot.Goals as goal

pub returns-clause-bad_config : goal.returns-clause-bad_config
returns-clause-bad_config c = search rules

pub returns-then-not-is_valid-clause-bad_config : goal.returns-then-not-is_valid-clause-bad_config
returns-then-not-is_valid-clause-bad_config c = search rules
