use Rattle.std.proofs.Common.{◌≡◌, ◌≤◌, slice_index, cond}
use Rattle.group_protection.specs.Shares.{is_ahead, sum_below}
use Rattle.group_protection.proofs.reclaim_shares.Shares.groups_ahead.Given as goal

abbrev pub invariant-loop-other : goal.invariant-loop-other
invariant-loop-other l =
    (l.ahead ≤ l.other)
    × (l.ahead ≡ sum_below l.other (λ other. cond (is_ahead l.self.room (slice_index l.self.available) l.self.want other l.group) 1 0))
