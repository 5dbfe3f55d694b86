use Rattle.std.proofs.Common.{◌≡◌, Bool, sym, ap, ◌∙◌, arith, cond, slice_index}
use Rattle.group_protection.specs.Shares.{is_ahead, groups_ahead, sum_below}
use Rattle.group_protection.proofs.SumsBelow.{byte_is, one_at_most, sum_below_more, sum_below_none}
use Rattle.group_protection.proofs.reclaim_shares.Shares.groups_ahead.Goals as goal

pub loop-other-init : goal.loop-other-init
loop-other-init c = (omega arith, sym (sum_below_none (λ other. cond (is_ahead c.args.self.now.room (slice_index c.args.self.now.available) c.args.self.now.want other c.args.group) 1 0)))

pub loop-other-preserved : goal.loop-other-preserved
loop-other-preserved c =
    let more = sum_below_more c.loop-other.other (λ other. cond (is_ahead c.args.self.now.room (slice_index c.args.self.now.available) c.args.self.now.want other c.args.group) 1 0) in
    let is = c.from-ahead.ensures ∙ byte_is c.is_ahead.result ∙ ap (λ (b : Bool). cond b 1 0) c.is_ahead.ensures in
    let few = c.loop-other.invariant.0 in
    let so = c.loop-other.invariant.1 in
    let one = one_at_most (is_ahead c.args.self.now.room (slice_index c.args.self.now.available) c.args.self.now.want c.loop-other.other c.args.group) in (
      omega (arith, is, few, one),
      omega (arith, is, so, more),
    )

pub returns : goal.returns
unfolding groups_ahead
returns c =
    let end : c.loop-other.other ≡ c.args.self.now.room = omega arith in
    c.loop-other.invariant.1
    ∙ ap (λ n. sum_below n (λ other. cond (is_ahead c.args.self.now.room (slice_index c.args.self.now.available) c.args.self.now.want other c.args.group) 1 0)) end
