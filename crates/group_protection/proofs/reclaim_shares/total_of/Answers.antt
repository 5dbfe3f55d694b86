use Rattle.std.proofs.Common.{◌≡◌, ap, ◌∙◌, sym, arith, slice_index}
use Rattle.group_protection.specs.Shares.{sum_below}
use Rattle.group_protection.proofs.SumsBelow.{sum_below_more, sum_below_none}
use Rattle.group_protection.proofs.reclaim_shares.total_of.Goals as goal

pub loop-number-init : goal.loop-number-init
loop-number-init c = (sym (sum_below_none (slice_index c.args.available.now)), omega arith)

pub loop-number-preserved : goal.loop-number-preserved
loop-number-preserved c =
    let more = sum_below_more c.loop-number.number (slice_index c.args.available.now) in
    let so = c.loop-number.invariant.0 in
    let few = c.loop-number.invariant.1 in
    let here = c.from-sum.ensures in
    let fits = c.fits-available c.loop-number.number in (
      omega (arith, more, so, here),
      omega (arith, few, here, fits),
    )

pub returns : goal.returns
returns c =
    let end : c.loop-number.number ≡ c.args.room = omega arith in
    c.loop-number.invariant.0 ∙ ap (λ n. sum_below n (slice_index c.args.available.now)) end
