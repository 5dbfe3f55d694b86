use Rattle.script_lint.proofs.Judging.{write_judged}
use Rattle.script_lint.proofs.refusal.write_refusal.Goals as goal

pub returns-in-Ok : goal.returns-in-Ok
returns-in-Ok c =
    write_judged c.args.path.now c.args.name.now c.args.value.now c.in-Ok.file c.in-Ok.ensures.file c.value_refusal.result
    c.value_refusal.ensures
