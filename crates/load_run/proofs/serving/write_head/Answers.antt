-- Serves the contract of `write_head`: there is none; or it was written, or not whole.
use Rattle.std.proofs.Common.{◌≡◌, ◌∙◌}
use Rattle.std.proofs.lemmas.Result.{err_from_is_err_and}
use Rattle.load_run.specs.Logs.{log_head_text}
use Rattle.load_run.proofs.SessionEnds.{head_begun, head_missed, head_written, no_head}
use Rattle.load_run.proofs.serving.write_head.Goals as goal

pub returns-in-Answers-clause-written : goal.returns-in-Answers-clause-written
returns-in-Answers-clause-written g c = no_head c.args.form _ c.args.sizes.now (g.O.Write.contents c.args.output.now) c.in-Answers.is

pub returns-in_ok-log_head-in-Steps-clause-written : goal.returns-in_ok-log_head-in-Steps-clause-written
returns-in_ok-log_head-in-Steps-clause-written g c =
    let same : c.deref.result.now ≡ log_head_text c.args.sizes.now = c.deref.ensures.value ∙ c.in_ok-log_head-in-Steps.ensures in
    head_written c.write_answers.result c.args.form c.args.sizes.now _ _ c.deref.result.now c.in-Steps.is same c.write_answers.ensures.written

pub returns-in_ok-log_head-in-Steps-clause-begun : goal.returns-in_ok-log_head-in-Steps-clause-begun
returns-in_ok-log_head-in-Steps-clause-begun g c =
    let same : c.deref.result.now ≡ log_head_text c.args.sizes.now = c.deref.ensures.value ∙ c.in_ok-log_head-in-Steps.ensures in
    head_begun c.write_answers.result c.args.form c.args.sizes.now _ _ c.deref.result.now c.in-Steps.is same c.write_answers.ensures.fault
    c.write_answers.ensures.beginning

pub returns-in_err-log_head-in-Steps-clause-begun : goal.returns-in_err-log_head-in-Steps-clause-begun
returns-in_err-log_head-in-Steps-clause-begun g c =
    let p = err_from_is_err_and c.from_residual.result c.from_residual.ensures.1 in
    rw (p.1, p.2) (tt, head_missed c.args.form c.args.sizes.now (g.O.Write.contents c.args.output.now) c.in-Steps.is)
