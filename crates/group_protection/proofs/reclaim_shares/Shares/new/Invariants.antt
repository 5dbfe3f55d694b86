use Rattle.std.proofs.Common.{◌≡◌, ℕ, ◌*◌, ◌^◌, ◌<◌, ◌≤◌, length, slice_index}
use Rattle.group_tree.specs.Bounds.{most_groups}
use Rattle.group_protection.specs.Shares.{remainder, sum_below, whole_part}
use Rattle.group_protection.proofs.reclaim_shares.Shares.new.Given as goal

abbrev pub invariant-loop-number : goal.invariant-loop-number
invariant-loop-number l = record {
  long : length l.remainders ≡ most_groups;
  given : l.given ≡ sum_below l.number (whole_part l.room (slice_index l.available) l.want);
  few : l.given ≤ l.number * 2 ^ 32;
  kept : (group : ℕ) → group < l.number → slice_index l.remainders group ≡ remainder l.room (slice_index l.available) l.want group;
}
