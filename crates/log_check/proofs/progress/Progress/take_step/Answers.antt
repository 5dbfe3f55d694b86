-- Serves the contract of `take_step`: the step goes on the run, or is not allowed.
use Rattle.std.proofs.Common.{◌+◌, ◌∙◌, ap, subst}
use Rattle.step_rules.specs.State.{State, is_unheld, one_if}
use Rattle.mem_core.specs.Shown.{state_shown}
use Rattle.log_check.specs.{Checked, IsReason}
use Rattle.log_check.proofs.Steps.{ends_illegally, leaves_step, refuses_step, takes_step}
use Rattle.log_check.proofs.progress.Progress.take_step.Goals as goal

pub returns-in-None-clause-taken : goal.returns-in-None-clause-taken
returns-in-None-clause-taken c = λ count lines left checked.
    let old = c.args.self.now in
    refuses_step count lines c.args.step.now c.args.answer.now old.steps old.free left
    (subst (λ s. Checked s count lines old.steps old.free left) c.in-None.is checked)

pub returns-in-Ok-clause-taken : goal.returns-in-Ok-clause-taken
returns-in-Ok-clause-taken c = λ count lines left checked.
    let old = c.args.self.now in
    let free = c.free_once.ensures.once ∙ ap (λ (s : State). one_if (is_unheld s.hold)) c.rows.ensures.state in
    takes_step count lines c.args.step.now c.args.answer.now c.in-Some.checker c.accept.new.self old.steps old.free (old.free + c.free_once.result) left
    (subst (λ s. Checked s count lines old.steps old.free left) c.in-Some.is checked) c.in-Ok.ensures.accepted (ap (λ n. old.free + n) free)

pub returns-in-Err-clause-taken : goal.returns-in-Err-clause-taken
returns-in-Err-clause-taken c = λ count lines left checked.
    let old = c.args.self.now in
    let so_far = subst (λ s. Checked s count lines old.steps old.free left) c.in-Some.is checked in
    let why = subst (λ (x : State). IsReason x c.args.step.now c.args.answer.now c.in-Err.expected c.reason_of.result)
    (c.rows-in-Err.ensures.state ∙ ap state_shown c.in-Err.ensures.unchanged) c.reason_of.ensures in (
      ends_illegally count lines c.args.step.now c.args.answer.now c.in-Err.expected c.reason_of.result c.in-Some.checker old.steps old.free left so_far
          c.in-Err.ensures.denied c.in-Err.ensures.refused why,
      leaves_step count lines c.args.step.now c.args.answer.now c.in-Err.expected c.reason_of.result c.in-Some.checker c.accept.new.self old.steps old.free
          left so_far c.in-Err.ensures.unchanged c.in-Err.ensures.denied c.in-Err.ensures.refused why,
    )
