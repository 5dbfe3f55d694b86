use Rattle.script_lint.proofs.Spots.{stuck_is, whole_is}
use Rattle.script_lint.proofs.line.lint_alone.Goals as goal

pub returns-then-is_good : goal.returns-then-is_good
returns-then-is_good c =
    rw c.whole_spot.ensures (whole_is c.args.sizes.now c.args.had_go c.args.text.now (c.is_good.ensures.0 c.if-is_good.true))

pub returns : goal.returns
returns c = rw c.stuck_spot.ensures (stuck_is c.args.sizes.now c.args.had_go c.args.text.now c.in_ok-place.place c.in_ok-place.ensures)
