-- How much of a group's usage is protected from a reclaim (cgroup-v2.rst, memory.min and memory.low;
-- `effective_protection` with memory_recursiveprot, mm/memcontrol.c, Linux 6.1).
use Rattle.std.specs.Prelude.{◌≡◌, ◌≢◌, ℕ, zero, suc, ◌+◌, ◌-◌, ◌*◌, ◌/◌, ◌^◌, ◌<◌, ◌≤◌, ◌==◌, ◌||◌, min, nat_eq, nat_lt, nat_le}
use Rattle.std.specs.Prelude.{true, false, Option, Some, None, unwrap_or, if◌then◌else◌, sum_by}
use Rattle.std.specs.Option.{option_eq}
use Rattle.group_tree.specs.Ancestors.{depth_at}
use Rattle.group_tree.specs.declared.group.Group.{Group}
use Rattle.group_tree.specs.Groups.{AreGroups, in_subtree, parent_of}
use Rattle.group_charge.specs.Charges.{Ledger, are_protecting, current_of, settings_of}
use Rattle.group_protection.specs.declared.protecting.Key.TheVariants.{Min, Low}
-- memory.min or memory.low
pub use Rattle.group_protection.specs.declared.protecting.Key.{Key}

-- memory.min
abbrev pub min_key : Key
min_key = Min

-- memory.low
abbrev pub low_key : Key
low_key = Low

-- what is set for the group, in pages: `max` is the greatest usage
abbrev pub setting : Key → Ledger → ℕ → ℕ
setting Min ledger group = unwrap_or (settings_of ledger group).min (2 ^ 32 - 1)
setting Low ledger group = unwrap_or (settings_of ledger group).low (2 ^ 32 - 1)

-- how much of that the group uses
abbrev pub used : Key → Ledger → ℕ → ℕ
used key ledger group = min (current_of ledger group) (setting key ledger group)

-- what the group claims of the protection of `parent`: what it uses, if it is a child of it
abbrev pub claim_on : Key → Ledger → (parent group : ℕ) → ℕ
claim_on key ledger parent group =
    if option_eq nat_eq (parent_of ledger.groups group) (Some parent) then used key ledger group else 0

-- what all children of the group claim together
abbrev pub claimed : Key → Ledger → ℕ → ℕ
claimed key ledger parent = sum_by (λ (g : Group). claim_on key ledger parent g.number) ledger.groups

-- What a child gets of its parent's protection, which is the most that it may get. If all children together claim more
-- than that, each claim is cut in proportion. Else it is met, and what is left is shared out by the usage for which
-- nothing is claimed.
abbrev pub share_of : (protection claimed usage own_use own_usage : ℕ) → ℕ
share_of protection claimed usage own_use own_usage =
    if nat_lt protection claimed then min (own_use * protection / claimed) protection
    else (if nat_le usage claimed || nat_le own_usage own_use then min own_use protection
    else min (own_use + (protection - claimed) * (own_usage - own_use) / (usage - claimed)) protection)

-- What protects a group with this parent, if `protects` says what protects the parent: nothing if the group is the
-- target itself, and all that is set for it if the parent is the target.
abbrev pub protection_from : Key → Ledger → (target : ℕ) → (protects : ℕ → ℕ) → (group : ℕ) → Option ℕ → ℕ
protection_from key ledger target protects group None = 0
protection_from key ledger target protects group (Some parent) =
    if group == target then 0
    else (if parent == target then setting key ledger group
    else share_of (protects parent) (claimed key ledger parent) (current_of ledger parent) (used key ledger group)
    (current_of ledger group))

-- what protects the group, over at most this many levels of the tree
abbrev pub effective_within : (levels : ℕ) → Key → Ledger → (target group : ℕ) → ℕ
effective_within zero key ledger target group = 0
effective_within (suc levels) key ledger target group =
    protection_from key ledger target (effective_within levels key ledger target) group
    (parent_of ledger.groups group)

-- the effective value: what protects the group, which is `target` or below it, from a reclaim with this target
unfoldable pub effective : Key → Ledger → (target group : ℕ) → ℕ
effective key ledger target group = effective_within (depth_at ledger.groups group) key ledger target group

-- the effective value follows from the parent's
abbrev pub ProtectionPassesDown : Type 0
ProtectionPassesDown =
    (key : Key) (ledger : Ledger) (target group : ℕ) → AreGroups ledger.groups
    → effective key ledger target group
    ≡ protection_from key ledger target (effective key ledger target) group (parent_of ledger.groups group)

-- a group is protected by at most what is set for the group right below the target on its path
abbrev pub ProtectionIsBounded : Type 0
ProtectionIsBounded =
    (key : Key) (ledger : Ledger) (target top group : ℕ) → AreGroups ledger.groups
    → parent_of ledger.groups top ≡ Some target → in_subtree ledger.groups top group ≡ true
    → effective key ledger target group ≤ setting key ledger top

-- if nothing is set, nothing is protected
abbrev pub NothingSetProtectsNothing : Type 0
NothingSetProtectsNothing =
    (key : Key) (ledger : Ledger) (target group : ℕ) → are_protecting ledger.settings ≡ false
    → effective key ledger target group ≡ 0

-- Memory.min keeps the group's pages from a reclaim for the group `limited`, which led from one ledger to the other:
-- they are no more than it protected when the group's turn came, which wasn't 0. Each usage was then between its values
-- before and after, and groups and settings were those of now.
pub record IsKeptByMin (before after : Ledger) (limited group : ℕ) : Type 0 where
  pub turn : Ledger
  pub groups : after.groups ≡ turn.groups
  pub settings : after.settings ≡ turn.settings
  pub since : (other : ℕ) → current_of turn other ≤ current_of before other
  pub until : (other : ℕ) → current_of after other ≤ current_of turn other
  pub some : 1 ≤ effective Min turn limited group
  pub few : current_of after group ≤ effective Min turn limited group

-- the group is below `limited` and on the path of the other group, or that group itself
pub record IsOnPathBelow (ledger : Ledger) (limited group above : ℕ) : Type 0 where
  pub below : in_subtree ledger.groups limited above ≡ true
  pub other : above ≢ limited
  pub on_path : in_subtree ledger.groups above group ≡ true

-- memory.min keeps no group whose usage is above each memory.min on its path below the limit
abbrev pub UsageAboveEachMinIsNotKept : Type 0
UsageAboveEachMinIsNotKept =
    (before after : Ledger) (limited group : ℕ) → AreGroups after.groups
    → in_subtree after.groups limited group ≡ true
    → ((above : ℕ) → IsOnPathBelow after limited group above → setting Min after above < current_of after group)
    → ¬ IsKeptByMin before after limited group
