-- Serves the contract of `serve_buffered`: a new buffer has the bytes of the input, or there is none.
use Rattle.std.proofs.Common.{IfErr, List, OnOk, Option, inl, refl, subst, ℕ}
use Rattle.line_server.specs.declared.fault.ServeFault.TheVariants.{NoMemory}
use Rattle.line_server.specs.{terms_of, FailsSession, ServesSession}
use Rattle.line_server.proofs.Sessions.{buffer_is_new, none_served}
use Rattle.line_server.proofs.server.Server.serve_buffered.Goals as goal

pub returns-in-Ok-clause-served : goal.returns-in-Ok-clause-served
returns-in-Ok-clause-served g c =
    let on = terms_of g.N.BootName.table c.args.self.now in
    let same = buffer_is_new (λ r. g.I.Read.remaining r.now) c.in-Ok.lines _ c.in-Ok.ensures.inner c.in-Ok.ensures.empty c.in-Ok.ensures.capacity in
    subst (λ (input : Option (List ℕ)). OnOk c.serve.result (ServesSession on c.args.self.now.sizes input c.args.self.now.state
    c.serve.new.self.state (g.O.Write.contents c.args.output.now) (g.O.Write.contents c.serve.new.output))) same c.serve.ensures.served

pub returns-in-Ok-clause-failed : goal.returns-in-Ok-clause-failed
returns-in-Ok-clause-failed g c =
    let on = terms_of g.N.BootName.table c.args.self.now in
    let same = buffer_is_new (λ r. g.I.Read.remaining r.now) c.in-Ok.lines _ c.in-Ok.ensures.inner c.in-Ok.ensures.empty c.in-Ok.ensures.capacity in
    subst (λ (input : Option (List ℕ)). IfErr c.serve.result (FailsSession on c.args.self.now.sizes input c.args.self.now.state
    c.serve.new.self.state (g.O.Write.contents c.args.output.now) (g.O.Write.contents c.serve.new.output))) same c.serve.ensures.failed

pub returns-in-Err-clause-failed : goal.returns-in-Err-clause-failed
returns-in-Err-clause-failed g c =
    none_served (terms_of g.N.BootName.table c.args.self.now) c.args.self.now.sizes _ c.args.self.now.state _ NoMemory (inl refl, refl)
