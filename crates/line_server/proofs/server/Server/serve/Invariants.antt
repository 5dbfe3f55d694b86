-- Serves the loop of `serve`: each line so far was answered.
use Rattle.line_server.specs.Known.{KeepsTerms, terms_of}
use Rattle.line_server.proofs.Sessions.{SoFar}
use Rattle.line_server.proofs.server.Server.serve.Given as goal

abbrev pub invariant-loop-before : goal.invariant-loop-before
invariant-loop-before g l =
    SoFar (terms_of g.N.BootName.table l.initial.self) l.initial.self.sizes l.before (g.I.Read.remaining l.initial.input)
    (g.I.Read.remaining l.input) l.initial.self.state l.self.state (g.O.Write.contents l.initial.output) (g.O.Write.contents l.output)
    × KeepsTerms l.initial.self l.self
