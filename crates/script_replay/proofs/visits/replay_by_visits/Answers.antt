use Rattle.std.proofs.Common.{ap}
use Rattle.std.specs.String.{string_bytes}
use Rattle.script_replay.specs.{known_system, VisitsLine}
use Rattle.script_replay.proofs.InOrder.{in_order_end, in_order_line}
use Rattle.script_replay.proofs.Visiting.{visits_stop}
use Rattle.script_replay.proofs.Telling.{at_error}
use Rattle.script_replay.proofs.visits.replay_by_visits.Goals as goal

pub loop-line-preserved : goal.loop-line-preserved
loop-line-preserved g c =
    in_order_line (VisitsLine (known_system g.N.BootName.table c.args.system.now.sizes)) c.args.cpus.now c.loop-line.cpus c.serve_by_visit.new.cpus
    c.args.lines.now c.loop-line.line-index _ (string_bytes c.loop-line.answers) (string_bytes c.serve_by_visit.new.answers) c.loop-line-test.true
    c.loop-line.invariant c.in_ok-serve_by_visit.ensures.served.text c.in_ok-serve_by_visit.ensures.served.so c.in_ok-serve_by_visit.ensures.served.added

pub returns-in_err-serve_by_visit-clause-stopped : goal.returns-in_err-serve_by_visit-clause-stopped
returns-in_err-serve_by_visit-clause-stopped g c =
    at_error c.from_residual.result _ (visits_stop (known_system g.N.BootName.table c.args.system.now.sizes) c.args.cpus.now c.loop-line.cpus c.serve_by_visit.new.cpus
    c.args.lines.now c.loop-line.line-index _ (string_bytes c.loop-line.answers) c.serve_by_visit.ensures.served.text c.loop-line-test.true
    c.loop-line.invariant c.serve_by_visit.ensures.served.so)

pub returns-clause-answers : goal.returns-clause-answers
returns-clause-answers g c =
    in_order_end (VisitsLine (known_system g.N.BootName.table c.args.system.now.sizes)) c.args.cpus.now c.loop-line.cpus c.args.lines.now c.loop-line.line-index (string_bytes c.loop-line.answers)
    c.into_bytes.result.items c.loop-line-test.false c.loop-line.invariant (ap (λ v. v.items) c.into_bytes.ensures.value)
