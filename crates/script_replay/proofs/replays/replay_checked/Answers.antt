use Rattle.std.proofs.Common.{ap, rules}
use Rattle.std.specs.String.{string_bytes}
use Rattle.std.proofs.lemmas.Result.{err_from_is_err_and}
use Rattle.script_replay.specs.{ServesAll, ServesLine, SystemState, system_state, form_terms}
use Rattle.script_replay.proofs.Going.{keeps_stop, stops_illegal}
use Rattle.script_replay.proofs.InOrder.{in_order_end, in_order_line}
use Rattle.script_replay.proofs.Seeing.{replayed_legally}
use Rattle.script_replay.proofs.replays.replay_checked.Goals as goal

pub loop-next-preserved : goal.loop-next-preserved
loop-next-preserved g c = (
  in_order_line (ServesLine (form_terms g.N.BootName.table c.args.form)) (system_state c.args.locked.now c.args.cpus.now)
      (system_state c.loop-next.locked c.loop-next.cpus) (system_state c.serve_in_form.new.locked c.serve_in_form.new.cpus)
      c.args.lines.now c.loop-next.next-index _ (string_bytes c.loop-next.answers) (string_bytes c.serve_in_form.new.answers) c.loop-next-test.true
      c.loop-next.invariant.0 c.in_ok-serve_in_form.ensures.served.text c.in_ok-serve_in_form.ensures.served.so c.in_ok-serve_in_form.ensures.served.added,
  search rules,
)

pub returns-in_err-serve_in_form : goal.returns-in_err-serve_in_form
returns-in_err-serve_in_form g c =
    let served = c.serve_in_form.ensures.served in
    let p = err_from_is_err_and c.from_residual.result c.from_residual.ensures.1 in
    rw (p.1, p.2) (record {
      outcome = record {
        replayed = tt;
        stopped = record {
          stops = keeps_stop (form_terms g.N.BootName.table c.args.form) (system_state c.args.locked.now c.args.cpus.now)
              (system_state c.loop-next.locked c.loop-next.cpus) (system_state c.serve_in_form.new.locked c.serve_in_form.new.cpus)
              c.args.lines.now c.loop-next.next-index _ (string_bytes c.loop-next.answers) served.text c.loop-next-test.true
              c.loop-next.invariant.0 served.so;
          reason = tt;
        };
      };
    })

pub returns-then-not-is_legal : goal.returns-then-not-is_legal
returns-then-not-is_legal g c =
    let served = c.serve_in_form.ensures.served in record {
      outcome = record {
        replayed = tt;
        stopped = stops_illegal (form_terms g.N.BootName.table c.args.form) (system_state c.args.locked.now c.args.cpus.now)
            (system_state c.loop-next.locked c.loop-next.cpus) (system_state c.serve_in_form.new.locked c.serve_in_form.new.cpus)
            c.args.lines.now c.loop-next.next-index _ (string_bytes c.loop-next.answers) served.text c.loop-next-test.true
            c.loop-next.invariant.0 served.so c.loop-next.invariant.1 (search rules) c.number_of.result c.number_of.ensures;
      };
    }

pub returns : goal.returns
returns g c =
    let on = form_terms g.N.BootName.table c.args.form in
    let first : SystemState = system_state c.args.locked.now c.args.cpus.now in
    let last : SystemState = system_state c.loop-next.locked c.loop-next.cpus in
    let all : ServesAll on c.args.lines.now first last c.into_bytes.result.items =
    in_order_end (ServesLine on) first last c.args.lines.now c.loop-next.next-index (string_bytes c.loop-next.answers)
    c.into_bytes.result.items c.loop-next-test.false c.loop-next.invariant.0 (ap (λ v. v.items) c.into_bytes.ensures.value) in record {
      outcome = record {
        replayed = replayed_legally on c.args.lines.now first last c.into_bytes.result.items all c.loop-next.invariant.1;
        stopped = tt;
      };
    }
