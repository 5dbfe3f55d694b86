use Rattle.std.proofs.Common.{refl, arith}
use Rattle.tempolemon_threads.proofs.zones.tempolemon_zone_boot_as.Goals as goal

pub returns-then-is_live-clause-statuses : goal.returns-then-is_live-clause-statuses
returns-then-is_live-clause-statuses c = (3, omega (arith), refl)

pub returns-else-start-clause-statuses : goal.returns-else-start-clause-statuses
returns-else-start-clause-statuses c = (2, omega (arith), refl)

pub returns-in-Err-NoMemory-clause-statuses : goal.returns-in-Err-NoMemory-clause-statuses
returns-in-Err-NoMemory-clause-statuses c = (2, omega (arith), refl)
