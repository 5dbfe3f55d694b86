-- Serves the loop of `read_line`: what was read is the beginning of a line.
use Rattle.std.proofs.Common.{◌≡◌, length}
use Rattle.line_server.proofs.Bytes.{HasRead}
use Rattle.line_server.proofs.reading.read_line.Given as goal

abbrev pub invariant-loop : goal.invariant-loop
invariant-loop g l =
    HasRead (g.I.Read.remaining l.initial.input) (g.I.Read.remaining l.input) l.line.items × (length l.line.items ≡ l.counter)
