-- Serves the loop of `read_script`: what was read so far is there, and no more than is wanted.
use Rattle.load_run.proofs.Pieces.{ReadSoFar}
use Rattle.load_run.proofs.reading.read_script.Given as goal

abbrev pub invariant-loop : goal.invariant-loop
invariant-loop g l = ReadSoFar (g.I.Read.remaining l.initial.input) (g.I.Read.remaining l.input) l.script.items
