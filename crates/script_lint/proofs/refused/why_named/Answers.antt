use Rattle.script_lint.specs.{IsDoubtful, IsMissing, IsRefused, IsRefusedAfter}
use Rattle.script_lint.proofs.Judging.{judged_else, judged_or}
use Rattle.script_lint.proofs.refused.why_named.Goals as goal

pub returns : goal.returns
returns c texts knows =
    judged_else (IsRefusedAfter texts c.args.command.now) (IsDoubtful c.args.command.now)
    c.or.result c.doubt_of.result c.or-2.result c.or-2.ensures
    (judged_or (IsRefused c.args.command.now) (IsMissing texts c.args.command.now) c.refusal_of.result c.missing_group.result c.or.result c.or.ensures
    c.refusal_of.ensures (c.missing_group.ensures texts knows))
    c.doubt_of.ensures
