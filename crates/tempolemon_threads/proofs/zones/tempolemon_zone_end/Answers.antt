-- Serves the contract of `tempolemon_zone_end`: each status is at its place in the list.
use Rattle.std.proofs.Common.{refl, arith}
use Rattle.tempolemon_threads.proofs.zones.tempolemon_zone_end.Goals as goal

pub returns-in-Out-clause-statuses : goal.returns-in-Out-clause-statuses
returns-in-Out-clause-statuses c = (2, omega arith, refl)

pub returns-in-NoMemory-clause-statuses : goal.returns-in-NoMemory-clause-statuses
returns-in-NoMemory-clause-statuses c = (3, omega arith, refl)
