use Rattle.script_lint.proofs.Judging.{read_judged}
use Rattle.script_lint.proofs.refusal.read_refusal.Goals as goal

pub returns-in-Ok : goal.returns-in-Ok
returns-in-Ok c = read_judged c.args.path.now c.args.name.now c.in-Ok.file c.in-Ok.ensures.file c.unread.result c.unread.ensures
