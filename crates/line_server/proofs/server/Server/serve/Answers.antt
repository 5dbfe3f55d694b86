-- Serves the contract of `serve`: each line is one turn more, up to the end or to a fault.
use Rattle.std.proofs.Common.{◌+◌, ◌∙◌, refl, subst}
use Rattle.line_server.specs.declared.fault.ServeFault.TheVariants.{Input}
use Rattle.line_server.specs.{terms_of, EndsTurn, FailsTurn}
use Rattle.line_server.proofs.Sessions.{at_first, one_more, session_ended, session_failed}
use Rattle.line_server.proofs.server.Server.serve.Goals as goal

pub returns-then-not-goes_on-clause-served : goal.returns-then-not-goes_on-clause-served
returns-then-not-goes_on-clause-served g c =
    let frames = g.N.BootName.table in
    let first = c.args.self.now in
    let left = g.I.Read.remaining c.loop-before.input in
    let after = g.I.Read.remaining c.serve_line.new.input in
    let middle = g.O.Write.contents c.loop-before.output in
    let now = g.O.Write.contents c.serve_line.new.output in
    let end = at_first frames first c.loop-before.self
    (λ on sizes. EndsTurn on sizes (c.loop-before.before + 1) left after c.loop-before.self.state c.serve_line.new.self.state middle now c.in-Ok.goes_on)
    c.loop-before.invariant.1 c.in-Ok.ensures.served in
    session_ended (terms_of frames first) first.sizes c.loop-before.before _ left _ c.loop-before.self.state _ middle c.serve_line.new.self.state now c.loop-before.invariant.0
    (subst (EndsTurn (terms_of frames first) first.sizes (c.loop-before.before + 1) left after c.loop-before.self.state c.serve_line.new.self.state middle now)
    c.if-not-goes_on.true end)

pub returns-in-Err-clause-failed : goal.returns-in-Err-clause-failed
returns-in-Err-clause-failed g c =
    let frames = g.N.BootName.table in
    let first = c.args.self.now in
    let middle = g.O.Write.contents c.loop-before.output in
    let now = g.O.Write.contents c.serve_line.new.output in
    let fails = at_first frames first c.loop-before.self
    (λ on sizes. FailsTurn on sizes (c.loop-before.before + 1) c.loop-before.self.state c.serve_line.new.self.state middle now c.in-Err.fault)
    c.loop-before.invariant.1 c.in-Err.ensures.failed in
    session_failed (terms_of frames first) first.sizes c.loop-before.before _ (g.I.Read.remaining c.loop-before.input) _ c.loop-before.self.state _ middle
    c.serve_line.new.self.state now c.in-Err.fault c.loop-before.invariant.0 fails

pub loop-before-preserved : goal.loop-before-preserved
loop-before-preserved g c =
    let frames = g.N.BootName.table in
    let first = c.args.self.now in
    let left = g.I.Read.remaining c.loop-before.input in
    let after = g.I.Read.remaining c.serve_line.new.input in
    let middle = g.O.Write.contents c.loop-before.output in
    let now = g.O.Write.contents c.serve_line.new.output in
    let turn = at_first frames first c.loop-before.self
    (λ on sizes. EndsTurn on sizes (c.loop-before.before + 1) left after c.loop-before.self.state c.serve_line.new.self.state middle now c.in-Ok.goes_on)
    c.loop-before.invariant.1 c.in-Ok.ensures.served in
    let one = subst (EndsTurn (terms_of frames first) first.sizes (c.loop-before.before + 1) left after c.loop-before.self.state c.serve_line.new.self.state middle now)
    c.if-not-goes_on.false turn in (
      one_more (terms_of frames first) first.sizes c.loop-before.before _ left _ c.loop-before.self.state _ middle after c.serve_line.new.self.state now
          c.loop-before.invariant.0 one,
      record {
        sizes = c.in-Ok.ensures.terms.sizes ∙ c.loop-before.invariant.1.sizes;
        form = c.in-Ok.ensures.terms.form ∙ c.loop-before.invariant.1.form;
      },
    )

pub returns-clause-failed : goal.returns-clause-failed
returns-clause-failed g c =
    let first = c.args.self.now in
    session_failed (terms_of g.N.BootName.table first) first.sizes c.loop-before.before _ (g.I.Read.remaining c.loop-before.input) _ c.loop-before.self.state _
    (g.O.Write.contents c.loop-before.output) c.loop-before.self.state (g.O.Write.contents c.loop-before.output) Input c.loop-before.invariant.0 (refl, refl)
