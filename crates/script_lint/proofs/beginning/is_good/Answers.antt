use Rattle.std.proofs.Common.{false, ◌≡◌}
use Rattle.script_lines.specs.Script.{is_skipped}
use Rattle.script_lint.proofs.Ends.{no_line}
use Rattle.script_lint.proofs.beginning.is_good.Goals as goal

pub returns-in-None : goal.returns-in-None
returns-in-None c =
    let asks : is_skipped c.args.text.now ≡ false = rw (← c.is_skipped.ensures) c.if-is_skipped.false in
    (λ no. cc, λ good. absurd (no_line c.args.sizes.now c.args.had_go c.args.text.now asks (rw c.in-None.is at c.parse_line.ensures) good))
