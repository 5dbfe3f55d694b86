-- Serves the loop of `next_byte`: an interrupted read took nothing.
use Rattle.std.specs.Io.KnownBytes.{Keeps}
use Rattle.line_server.proofs.reading.next_byte.Given as goal

abbrev pub invariant-loop : goal.invariant-loop
invariant-loop g l = Keeps (g.I.Read.remaining l.initial.input) (g.I.Read.remaining l.input)
