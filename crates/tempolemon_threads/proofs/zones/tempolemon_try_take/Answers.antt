-- Serves the contract of `tempolemon_try_take`: each status is at its place in the list.
use Rattle.std.proofs.Common.{refl, arith}
use Rattle.tempolemon_threads.proofs.zones.tempolemon_try_take.Goals as goal

pub returns-then-is_live-clause-statuses : goal.returns-then-is_live-clause-statuses
returns-then-is_live-clause-statuses c = (2, omega arith, refl)

pub returns-then-eq-clause-statuses : goal.returns-then-eq-clause-statuses
returns-then-eq-clause-statuses c = (5, omega arith, refl)

pub returns-in-Err-NoCpu-clause-statuses : goal.returns-in-Err-NoCpu-clause-statuses
returns-in-Err-NoCpu-clause-statuses c = (3, omega arith, refl)

pub returns-in-Err-Out-clause-statuses : goal.returns-in-Err-Out-clause-statuses
returns-in-Err-Out-clause-statuses c = (4, omega arith, refl)
