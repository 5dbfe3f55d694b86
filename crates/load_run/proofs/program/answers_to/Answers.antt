-- Serves the contract of `answers_to`: what was read is a script, and is answered by what its lines are; or some part failed.
use Rattle.std.proofs.Common.{List, Some, refl, subst, sym, ℕ}
use Rattle.std.proofs.lemmas.Result.{IfErr-weaker, err_from_is_err_and}
use Rattle.script_lines.specs.declared.line.Line.{Line}
use Rattle.script_lines.specs.Script.{IsScript}
use Rattle.script_replay.proofs.InRange.{script_there}
use Rattle.load_options.proofs.Asking.{asked_some}
use Rattle.load_run.specs.{AreAnswers, IsScriptFault}
use Rattle.load_run.proofs.Answering.{answered, joined}
use Rattle.load_run.proofs.Causing.{boot_cause, script_cause}
use Rattle.load_run.proofs.program.answers_to.Goals as goal

pub returns-in_err-lines : goal.returns-in_err-lines
returns-in_err-lines g c =
    let options = c.args.options.now in
    let fault = c.in_err-lines.field-0.0 in
    let is_fault : IsScriptFault options.sizes c.in_ok-script.script.items fault =
    subst (λ (text : List ℕ). IsScriptFault options.sizes text fault) c.deref.ensures.value c.in_err-lines.ensures.fault in
    let p = err_from_is_err_and c.from_residual-in_err-lines.result c.from_residual-in_err-lines.ensures.1 in
    rw (p.1, p.2) (record {
      is_asked = tt;
      answered = tt;
      cause = script_cause (Some options) options _ c.in_ok-script.script.items fault refl c.requires.in_range c.in_ok-script.ensures.read is_fault;
    })

pub answers_of-requires-clause-lines : goal.answers_of-requires-clause-lines
answers_of-requires-clause-lines g c κs within =
    let sizes = c.args.options.now.sizes in
    let is : IsScript sizes c.deref.result.now c.deref-3.result.now =
    subst (λ (lines : List Line). IsScript sizes c.deref.result.now lines) (sym c.deref-3.ensures.value) c.in_ok-lines.ensures.lines in
    script_there _ _ _ is

pub returns : goal.returns
returns g c =
    let options = c.args.options.now in
    let read = c.in_ok-script.ensures.read in
    let is : IsScript options.sizes c.in_ok-script.script.items c.deref-3.result.now =
    subst (λ (text : List ℕ). IsScript options.sizes text c.deref-3.result.now) c.deref.ensures.value
    (subst (λ (lines : List Line). IsScript options.sizes c.deref.result.now lines) (sym c.deref-3.ensures.value) c.in_ok-lines.ensures.lines) in
    record {
      is_asked = asked_some (Some options) options c.answers_of.result refl;
      answered = joined c.answers_of.result _ _ _ (λ answers answer valid. answered (Some options) _ _ _ _ _ refl read is valid
          (subst (λ (text : List ℕ). AreAnswers options.task options.sizes options.is_audited options.is_numbered text c.deref-3.result.now answers.items)
          c.deref-2.ensures.value answer)) c.answers_of.ensures.answers c.answers_of.ensures.valid;
      cause = IfErr-weaker c.answers_of.result _ _ (λ fault is_fault. boot_cause (Some options) _ _ _ _ fault refl read is is_fault) c.answers_of.ensures.fault;
    }
