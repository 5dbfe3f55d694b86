-- Serves the loop of `check`: what was read so far is what the log is known to begin with.
use Rattle.std.proofs.Common.{◌≡◌}
use Rattle.log_check.specs.Taking.{HasRoomForLine}
use Rattle.log_check.proofs.Parts.{IsReadTo}
use Rattle.log_check.proofs.reading.check.Given as goal

abbrev pub invariant-loop : goal.invariant-loop
invariant-loop g l = HasRoomForLine l.log × (l.log.is_all ≡ l.is_all) × IsReadTo (g.I.Read.remaining l.initial.input) (g.I.Read.remaining l.input) l.log
