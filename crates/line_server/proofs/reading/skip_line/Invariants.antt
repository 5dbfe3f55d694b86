-- Serves the loop of `skip_line`: no line feed was read.
use Rattle.std.proofs.Common.{List, ℕ}
use Rattle.line_server.proofs.Bytes.{HasRead}
use Rattle.line_server.proofs.reading.skip_line.Given as goal

abbrev pub invariant-loop : goal.invariant-loop
invariant-loop g l = (bytes : List ℕ) × HasRead (g.I.Read.remaining l.initial.input) (g.I.Read.remaining l.input) bytes
