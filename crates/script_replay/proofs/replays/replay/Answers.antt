use Rattle.std.proofs.Common.{ap, rules}
use Rattle.std.specs.String.{string_bytes}
use Rattle.script_replay.specs.{ServesAll, ServesLine, SystemState, system_state, form_terms}
use Rattle.script_replay.proofs.Going.{keeps_stop}
use Rattle.script_replay.proofs.InOrder.{in_order_end, in_order_line}
use Rattle.script_replay.proofs.Telling.{at_error}
use Rattle.script_replay.proofs.replays.replay.Goals as goal

pub loop-line-preserved : goal.loop-line-preserved
loop-line-preserved g c =
    in_order_line (ServesLine (form_terms g.N.BootName.table c.args.form)) (system_state c.args.locked.now c.args.cpus.now)
    (system_state c.loop-line.locked c.loop-line.cpus) (system_state c.serve_in_form.new.locked c.serve_in_form.new.cpus)
    c.args.lines.now c.loop-line.line-index _ (string_bytes c.loop-line.answers) (string_bytes c.serve_in_form.new.answers) c.loop-line-test.true
    c.loop-line.invariant c.in_ok-serve_in_form.ensures.served.text c.in_ok-serve_in_form.ensures.served.so c.in_ok-serve_in_form.ensures.served.added

pub returns-in_err-serve_in_form : goal.returns-in_err-serve_in_form
returns-in_err-serve_in_form g c = let served = c.serve_in_form.ensures.served in record {
  outcome = record {
    replayed = search rules;
    stopped = at_error c.from_residual.result _ (keeps_stop (form_terms g.N.BootName.table c.args.form) (system_state c.args.locked.now c.args.cpus.now)
        (system_state c.loop-line.locked c.loop-line.cpus) (system_state c.serve_in_form.new.locked c.serve_in_form.new.cpus)
        c.args.lines.now c.loop-line.line-index _ (string_bytes c.loop-line.answers) served.text c.loop-line-test.true
        c.loop-line.invariant served.so);
  };
}

pub returns : goal.returns
returns g c =
    let on = form_terms g.N.BootName.table c.args.form in
    let first : SystemState = system_state c.args.locked.now c.args.cpus.now in
    let last : SystemState = system_state c.loop-line.locked c.loop-line.cpus in
    let all : ServesAll on c.args.lines.now first last c.into_bytes.result.items =
    in_order_end (ServesLine on) first last c.args.lines.now c.loop-line.line-index (string_bytes c.loop-line.answers)
    c.into_bytes.result.items c.loop-line-test.false c.loop-line.invariant (ap (λ v. v.items) c.into_bytes.ensures.value) in record {
      outcome = record {
        replayed = all;
        stopped = tt;
      };
    }
