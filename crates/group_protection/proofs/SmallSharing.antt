-- Small shares, computed. Serves the law.
use Rattle.std.proofs.Common.{refl}
use Rattle.group_protection.specs.Shares.{SmallShares, groups_ahead, is_ahead, pages_lacking, reclaim_share, remainder, sum_below, whole_part}

pub small_shares : SmallShares
unfolding reclaim_share groups_ahead is_ahead pages_lacking remainder whole_part sum_below
small_shares = record { some = refl; one = refl; all = refl; equal = refl }
