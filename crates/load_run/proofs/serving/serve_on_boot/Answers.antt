-- Serves the contract of `serve_on_boot`: the session ended and the text of its end was written, or not whole; or the session failed.
use Rattle.std.proofs.Common.{◌≡◌, ◌∙◌, List, OnOk, subst, ℕ}
use Rattle.std.proofs.lemmas.Result.{IfOk-at_ok, err_from_is_err_and}
use Rattle.std.specs.Io.KnownBytes.{Appends}
use Rattle.line_server.specs.Writing.{AppendsBeginning}
use Rattle.load_run.proofs.SessionEnds.{ending_begun, ending_missed, ending_written, session_ends, session_fails}
use Rattle.load_run.proofs.Starting.{new_state}
use Rattle.load_run.proofs.serving.serve_on_boot.Goals as goal

pub returns-in_ok-ended-in-Ok-clause-served : goal.returns-in_ok-ended-in-Ok-clause-served
returns-in_ok-ended-in-Ok-clause-served g c =
    let made = c.new-server.ensures in
    let boot = c.in_ok-locked.ensures in
    let new = new_state _ _ _ c.in_ok-locked.locked c.in_ok-locked.cpus.items c.requires.sizes boot.sized boot.machine boot.sizes boot.cpus boot.so_far in
    let gives = c.end_session-ended.ensures.ended in
    let ends = session_ends c.args.options.now c.args.form _ c.new-server.result _ new made.sizes made.form made.state _ _ _ _ _ gives.answer
    c.in-Ok.ensures.served c.into_parts-locked.ensures.state gives.so in
    let same : c.deref.result.now ≡ gives.answer = c.deref.ensures.value ∙ IfOk-at_ok _ c.in_ok-ended-in-Ok.was gives.given in
    let middle = g.O.Write.contents c.serve_buffered-served.new.output in
    let after = g.O.Write.contents c.write_answers.new.output in
    ending_written c.args.options.now c.args.form _ _ middle after gives.answer c.write_answers.result ends
    (subst (λ (l : List ℕ). OnOk c.write_answers.result (Appends middle after l)) same c.write_answers.ensures.written)

pub returns-in_ok-ended-in-Ok-clause-left : goal.returns-in_ok-ended-in-Ok-clause-left
returns-in_ok-ended-in-Ok-clause-left g c =
    let made = c.new-server.ensures in
    let boot = c.in_ok-locked.ensures in
    let new = new_state _ _ _ c.in_ok-locked.locked c.in_ok-locked.cpus.items c.requires.sizes boot.sized boot.machine boot.sizes boot.cpus boot.so_far in
    let gives = c.end_session-ended.ensures.ended in
    let ends = session_ends c.args.options.now c.args.form _ c.new-server.result _ new made.sizes made.form made.state _ _ _ _ _ gives.answer
    c.in-Ok.ensures.served c.into_parts-locked.ensures.state gives.so in
    let same : c.deref.result.now ≡ gives.answer = c.deref.ensures.value ∙ IfOk-at_ok _ c.in_ok-ended-in-Ok.was gives.given in
    ending_begun c.args.options.now c.args.form _ _ _ _ gives.answer c.write_answers.result c.requires.valid ends c.write_answers.ensures.fault
    (subst (AppendsBeginning _ _) same c.write_answers.ensures.beginning)

pub returns-in_err-ended-in-Ok-clause-left : goal.returns-in_err-ended-in-Ok-clause-left
returns-in_err-ended-in-Ok-clause-left g c =
    let made = c.new-server.ensures in
    let boot = c.in_ok-locked.ensures in
    let new = new_state _ _ _ c.in_ok-locked.locked c.in_ok-locked.cpus.items c.requires.sizes boot.sized boot.machine boot.sizes boot.cpus boot.so_far in
    let gives = c.end_session-ended.ensures.ended in
    let ends = session_ends c.args.options.now c.args.form _ c.new-server.result _ new made.sizes made.form made.state _ _ _ _ _ gives.answer
    c.in-Ok.ensures.served c.into_parts-locked.ensures.state gives.so in
    let p = err_from_is_err_and c.from_residual-in_err-ended-in-Ok.result c.from_residual-in_err-ended-in-Ok.ensures.1 in
    rw (p.1, p.2) (ending_missed c.args.options.now c.args.form _ _ _ gives.answer _ c.requires.valid ends)

pub returns-in-Err-clause-left : goal.returns-in-Err-clause-left
returns-in-Err-clause-left g c =
    let made = c.new-server.ensures in
    let boot = c.in_ok-locked.ensures in
    let new = new_state _ _ _ c.in_ok-locked.locked c.in_ok-locked.cpus.items c.requires.sizes boot.sized boot.machine boot.sizes boot.cpus boot.so_far in
    session_fails c.args.options.now c.args.form _ c.new-server.result _ new made.sizes made.form made.state _ _ _ _ c.in-Err.fault c.fault_of.result
    c.requires.valid c.in-Err.ensures.failed c.fault_of.ensures
