-- Reclaim in proportion: a pass in which each group gives no more than its share. Linux scans each group in proportion
-- to its lists (`shrink_node_memcgs`, `get_scan_count`).
use Rattle.std.specs.Prelude.{ℕ, ◌-◌, Bool, true, false, Option, Some, None, min, slice_index, if◌then◌else◌}
use Rattle.group_tree.specs.{in_subtree, room_of}
use Rattle.group_charge.specs.Charges.{current_of}
use Rattle.group_protection.specs.Protections.{effective, low_key, min_key}
use Rattle.group_protection.specs.Shares.{Sharing, reclaim_share}
use Rattle.mem_machine.specs.Machines.{KnownMachine}
use Rattle.mem_machine.specs.Clean.{clean_pages}
use Rattle.mem_reclaim.specs.declared.passes.Pass.{Pass}
use Rattle.mem_reclaim.specs.declared.passes.Pass.TheVariants.{First}
use Rattle.mem_reclaim.specs.Passes.{MakesPasses, TakesTurn, spared_by, subtree_of}
use Rattle.mem_reclaim.specs.Wanted.{BothFree, Reclaiming, WhileWanted}

-- how many pages the group may give in a reclaim with this target: its clean pages, but no more than its usage beyond
-- what memory.min or memory.low protects; a group outside the subtree gives none
unfoldable pub may_give : KnownMachine → (target group : ℕ) → ℕ
may_give machine target group =
    if in_subtree machine.ledger.groups target group
    then min (clean_pages machine group) (current_of machine.ledger group
    - spared_by First (effective min_key machine.ledger target group) (effective low_key machine.ledger target group))
    else 0

-- the group's share of this many pages that a reclaim with this target wants, if it begins with this machine
abbrev pub share_in_reclaim : KnownMachine → (target want group : ℕ) → ℕ
share_in_reclaim machine target want group =
    reclaim_share (room_of machine.ledger.groups) (may_give machine target) want group

-- the shares that these numbers of pages make up
abbrev pub shares_by : Sharing → (group : ℕ) → ℕ
shares_by sharing group = reclaim_share sharing.room (slice_index sharing.available) sharing.want group

-- how many pages a turn wants: all that are wanted, or no more than the group's share if there are shares
abbrev pub part_of : Option (ℕ → ℕ) → (group want : ℕ) → ℕ
part_of None group want = want
part_of (Some share) group want = min (share group) want

-- the turn of a group that wants no more than its share, if there are shares
abbrev pub TakesItsShare : Option (ℕ → ℕ) → Pass → (target group want : ℕ) → Reclaiming
TakesItsShare shares pass target group want = TakesTurn pass target group (part_of shares group want)

-- The pass of shares: a first pass, by ascending number, in which each turn wants no more than the group's share. The
-- shares are those of the machine when the reclaim begins.
abbrev pub ReclaimsShares : (target want : ℕ) → Reclaiming
ReclaimsShares target want done =
    WhileWanted (TakesItsShare (Some (share_in_reclaim done.before target want)) First target)
    (subtree_of done.before.ledger.groups target) want done

-- the passes, and before them that of shares if the boot chose it
abbrev pub MakesAllPasses : (is_proportional : Bool) → (target want : ℕ) → Reclaiming
MakesAllPasses false target want done = MakesPasses target want done
MakesAllPasses true target want done =
    BothFree (ReclaimsShares target want) (λ some. MakesPasses target (want - some)) done

-- a reclaim of this many pages from the subtree
abbrev pub Reclaims : (target want : ℕ) → Reclaiming
Reclaims target want done = MakesAllPasses done.before.is_proportional target want done
