-- Serves the contract of `answer_plainly`: the line is too long.
use Rattle.std.proofs.Common.{List, ℕ, IfOk, None, Option, ap, subst, sym}
use Rattle.script_replay.specs.Lines.{system_state}
use Rattle.line_server.specs.{KnownServer, terms_of, text_of, HasAnswer}
use Rattle.line_server.proofs.Answered.{too_long}
use Rattle.line_server.proofs.server.Server.answer_plainly.Goals as goal

pub returns-in-TooLong-clause-answered : goal.returns-in-TooLong-clause-answered
returns-in-TooLong-clause-answered g c =
    let frames = g.N.BootName.table in
    let inside = c.self.inside in
    let here : KnownServer = record { sizes = inside.sizes; form = inside.form; state = system_state inside.locked inside.cpus.items } in
    subst (λ (text : Option (List ℕ)). IfOk c.bad_line.result (λ answer. HasAnswer (terms_of frames c.args.self.now) c.args.self.now.sizes c.args.number text
    c.args.self.now.state c.args.self.now.state answer.items)) (sym (ap text_of c.in-TooLong.is))
    (subst (λ (s : KnownServer). IfOk c.bad_line.result (λ answer. HasAnswer (terms_of frames s) s.sizes c.args.number None s.state s.state answer.items)) c.self.view_is
    (too_long (terms_of frames here) inside.sizes c.args.number c.bad_line.result here.state c.bad_line.ensures))
