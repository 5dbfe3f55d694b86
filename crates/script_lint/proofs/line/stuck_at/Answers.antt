use Rattle.std.proofs.Common.{◌≡◌, ℕ, ◌+◌, arith, subst, sym, take}
use Rattle.script_lint.specs.Lines.{GoesOn, IsGoodText}
use Rattle.script_lint.proofs.line.stuck_at.Goals as goal

pub returns : goal.returns
returns c =
    let less = c.loop-right.invariant.0 in
    let inside = c.loop-right.invariant.1 in
    let stop = c.loop-right-test.false in
    let next : c.loop-right.right + 1 ≡ c.loop-right.wrong = omega arith in
    record {
      inside = omega arith;
      goes_on = c.loop-right.invariant.2;
      stuck = λ h on. c.loop-right.invariant.3 (omega arith)
          (subst (λ (n : ℕ). GoesOn (IsGoodText c.args.sizes.now c.args.had_go) (take n c.args.text.now)) next on);
      bad = c.requires.bad;
    }
