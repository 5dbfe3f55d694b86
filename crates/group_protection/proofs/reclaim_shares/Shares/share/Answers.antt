use Rattle.std.proofs.Common.{◌+◌, ap, ◌∙◌, cond, ltb, slice_index}
use Rattle.group_protection.specs.Shares.{Sharing, groups_ahead, pages_lacking, reclaim_share, whole_part}
use Rattle.group_protection.proofs.Parting.{whole_part_is}
use Rattle.group_protection.proofs.SumsBelow.{byte_is}
use Rattle.group_protection.proofs.reclaim_shares.Shares.share.Goals as goal

pub returns : goal.returns
unfolding reclaim_share
returns c =
    let part =
    c.whole_part-part.ensures.part
    ∙ whole_part_is c.self.inside.room (slice_index c.self.inside.available) c.self.inside.want _ _ c.number-number.result c.self.invariant.0 c.min-shared.ensures
    ∙ ap (λ (s : Sharing). whole_part s.room (slice_index s.available) s.want c.number-number.result) c.self.view_is
    ∙ ap (whole_part c.args.self.now.room (slice_index c.args.self.now.available) c.args.self.now.want) c.number-number.ensures.value in
    let ahead = c.groups_ahead.ensures ∙ ap (groups_ahead c.args.self.now.room (slice_index c.args.self.now.available) c.args.self.now.want) c.number-number.ensures.value in
    let lacking = c.self.invariant.2 ∙ ap (λ (s : Sharing). pages_lacking s.room (slice_index s.available) s.want) c.self.view_is in
    let one = c.from.ensures ∙ byte_is (ltb c.groups_ahead.result c.self.inside.lacking) ∙ (λ i. cond (ltb (ahead i) (lacking i)) 1 0) in
    λ i. part i + one i
