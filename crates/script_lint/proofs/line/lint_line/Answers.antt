use Rattle.script_lint.proofs.Spots.{past_is, within_is}
use Rattle.script_lint.proofs.line.lint_line.Goals as goal

pub returns-then-is_within : goal.returns-then-is_within
returns-then-is_within c =
    within_is c.args.sizes.now c.args.had_go c.args.text.now c.args.is_within c.if-is_within.true c.in_ok-alone.alone c.in_ok-alone.ensures

pub returns-else-is_within : goal.returns-else-is_within
returns-else-is_within c = rw c.spot_past_limit.ensures
    (past_is c.args.sizes.now c.args.had_go c.args.text.now c.args.is_within c.if-is_within.false c.in_ok-alone.alone c.in_ok-alone.ensures)
