use Rattle.std.proofs.Common.{◌≡◌}
use Rattle.log_lines.proofs.Searches.{found_from}
use Rattle.log_lines.proofs.name.named.Given as goal

abbrev pub invariant-loop-row : goal.invariant-loop-row
invariant-loop-row g l = found_from l.word l.names l.row-index ≡ found_from l.word l.names 0
