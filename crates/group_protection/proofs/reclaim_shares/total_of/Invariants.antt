use Rattle.std.proofs.Common.{◌≡◌, ◌*◌, ◌^◌, ◌≤◌, slice_index}
use Rattle.group_protection.specs.Shares.{sum_below}
use Rattle.group_protection.proofs.reclaim_shares.total_of.Given as goal

abbrev pub invariant-loop-number : goal.invariant-loop-number
invariant-loop-number l = (l.sum ≡ sum_below l.number (slice_index l.available)) × (l.sum ≤ l.number * 2 ^ 32)
