-- What each group gives of the pages that a reclaim wants: its share, in proportion to the pages that it may give.
use Rattle.std.specs.Prelude.{◌≡◌, ℕ, ◌+◌, ◌-◌, ◌*◌, ◌/◌, ◌%◌, ◌<◌, ◌≤◌, ◌==◌, ◌||◌, ◌&&◌, min, nat_lt}
use Rattle.std.specs.Prelude.{Bool, List, [], ◌∷◌, if◌then◌else◌, length, map, slice_index, sum}
use Rattle.std.specs.List.{range_with_len}

-- what is shared out: how many groups there may be, how many pages the group of each number may give, and how many are
-- wanted
pub record Sharing : Type 0 where
  pub room : ℕ
  pub available : List ℕ
  pub want : ℕ

-- the sum of f 0, f 1 and so on, `count` numbers in all
unfoldable pub sum_below : (count : ℕ) → (f : ℕ → ℕ) → ℕ
sum_below count f = sum (map f (range_with_len 0 count))

-- of `count` groups, the group of each number may give `available` pages, and `want` pages are wanted of all
module _ (count : ℕ) (available : ℕ → ℕ) (want : ℕ) where
  -- the pages that are shared out: those wanted, or all there are
  abbrev pub shared_pages : ℕ
  shared_pages = min want (sum_below count available)

  -- the group's part of them, in proportion to what it may give, rounded down (0 if no group may give any)
  unfoldable pub whole_part : (group : ℕ) → ℕ
  whole_part group = shared_pages * available group / sum_below count available

  -- what that division leaves
  unfoldable pub remainder : (group : ℕ) → ℕ
  remainder group = shared_pages * available group % sum_below count available

  -- the pages that lack if each group gives its part rounded down
  unfoldable pub pages_lacking : ℕ
  pages_lacking = shared_pages - sum_below count whole_part

  -- the other group gives one of them before this group: its remainder is greater, or as great and its number lower
  unfoldable pub is_ahead : (other group : ℕ) → Bool
  is_ahead other group =
      nat_lt (remainder group) (remainder other) || (remainder other == remainder group && nat_lt other group)

  -- how many groups do so
  unfoldable pub groups_ahead : (group : ℕ) → ℕ
  groups_ahead group = sum_below count (λ other. if is_ahead other group then 1 else 0)

  -- the pages that the group gives: its part rounded down, and one page if it is among the first that give what lacks
  unfoldable pub reclaim_share : (group : ℕ) → ℕ
  reclaim_share group = whole_part group + (if nat_lt (groups_ahead group) pages_lacking then 1 else 0)

-- all shares together are the pages wanted, or all there are
abbrev pub SharesAddUp : Type 0
SharesAddUp =
    (count : ℕ) (available : ℕ → ℕ) (want : ℕ)
    → sum_below count (reclaim_share count available want) ≡ min want (sum_below count available)

-- the share is `dividend` / `divisor`, rounded up or down
pub record IsRounded (dividend divisor share : ℕ) : Type 0 where
  pub at_most_up : share * divisor ≤ dividend + (divisor - 1)
  pub at_least_down : dividend ≤ share * divisor + (divisor - 1)

-- a share is the group's part in proportion to what it may give, rounded up or down
abbrev pub SharesAreInProportion : Type 0
SharesAreInProportion =
    (count : ℕ) (available : ℕ → ℕ) (want group : ℕ) → 0 < sum_below count available
    → IsRounded (shared_pages count available want * available group) (sum_below count available)
    (reclaim_share count available want group)

-- a share is at most what the group may give: nothing if it may give nothing
abbrev pub SharesAreAvailable : Type 0
SharesAreAvailable =
    (count : ℕ) (available : ℕ → ℕ) (want group : ℕ) → reclaim_share count available want group ≤ available group

-- the shares of groups that may give so many pages
abbrev pub shares_of : (available : List ℕ) → (want : ℕ) → List ℕ
shares_of available want =
    map (reclaim_share (length available) (slice_index available) want) (range_with_len 0 (length available))

-- Groups that may give 1, 10 and 100 pages: the greatest remainders give what lacks. Groups that may give as many: the
-- lower numbers do.
pub record SmallShares : Type 0 where
  pub some : shares_of (1 ∷ 10 ∷ 100 ∷ []) 11 ≡ 0 ∷ 1 ∷ 10 ∷ []
  pub one : shares_of (1 ∷ 10 ∷ 100 ∷ []) 1 ≡ 0 ∷ 0 ∷ 1 ∷ []
  pub all : shares_of (1 ∷ 10 ∷ 100 ∷ []) 1000 ≡ 1 ∷ 10 ∷ 100 ∷ []
  pub equal : shares_of (5 ∷ 5 ∷ 5 ∷ []) 2 ≡ 1 ∷ 1 ∷ 0 ∷ []
