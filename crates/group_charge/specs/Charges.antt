-- The charges of a tree of groups: for each group its own pages, its peak, its event counts and what is set for it.
use Rattle.std.specs.Prelude.{All, ◌≡◌, ℕ, ◌+◌, ◌-◌, ◌^◌, ◌<◌, ◌≤◌, ◌==◌, ◌||◌, Bool, not, nat_eq, Option, None, Some, List, [], ◌∷◌}
use Rattle.std.specs.Prelude.{◌++◌, filter, map, replicate, set, sum_by, if◌then◌else◌}
use Rattle.std.specs.List.{find, list_any, slice_index_or}
use Rattle.std.specs.Option.{option_eq, option_map_or}
use Rattle.group_tree.specs.{EventCounts, no_events, with_one_more, initial_groups, in_subtree, with_group, without_group, with_limit}
use Rattle.group_tree.specs.{with_oom_group, AreGroups, at_group, on_path, peak_after}
use Rattle.group_tree.specs.declared.group.Group.{Group}
use Rattle.group_tree.specs.declared.event.EventKey.TheVariants.{Max, Oom, OomKill, OomGroupKill}
use Rattle.group_tree.specs.declared.event.EventKey.{EventKey}
-- an account has a group's number, its own pages, its peak and its event counts
pub use Rattle.group_charge.specs.declared.account.Account.{Account}
-- memory.high, memory.low and memory.min, in pages, or None for `max`
pub use Rattle.group_charge.specs.declared.settings.ReclaimSettings.{ReclaimSettings}

-- the groups of the tree, and an account for each, in the order in which the groups were made; by number, what is set
pub record Ledger : Type 0 where
  pub groups : List Group
  pub accounts : List Account
  pub settings : List ReclaimSettings

-- the defaults: no memory.high, and nothing is protected
abbrev pub no_settings : ReclaimSettings
no_settings = record { high = None; low = Some 0; min = Some 0 }

-- memory.low or memory.min is above 0
abbrev pub is_protecting : ReclaimSettings → Bool
is_protecting settings = not (option_eq nat_eq settings.low (Some 0)) || not (option_eq nat_eq settings.min (Some 0))

-- that of some group is
abbrev pub are_protecting : List ReclaimSettings → Bool
are_protecting settings = list_any is_protecting settings

-- the account of a new group: no page, peak 0 and all counts 0
abbrev pub empty_account : ℕ → Account
empty_account n = record { group = n; pages = 0; peak = 0; events = no_events; events_local = no_events }

-- the root alone, with nothing charged and nothing set; this many groups may exist below it
abbrev pub initial_ledger : ℕ → Ledger
initial_ledger descendants = record {
  groups = initial_groups descendants;
  accounts = empty_account 0 ∷ [];
  settings = replicate (1 + descendants) no_settings;
}

-- what is set for the group
abbrev pub settings_of : Ledger → ℕ → ReclaimSettings
settings_of l g = slice_index_or l.settings g no_settings

-- the account of the group
unfoldable pub account_at : Ledger → ℕ → Option Account
account_at l g = find (λ a. a.group == g) l.accounts

-- the pages charged to the group itself
unfoldable pub pages_of : Ledger → ℕ → ℕ
pages_of l g = option_map_or (λ a. a.pages) (account_at l g) 0

-- memory.peak: the greatest usage since the group was made
unfoldable pub peak_of : Ledger → ℕ → ℕ
peak_of l g = option_map_or (λ a. a.peak) (account_at l g) 0

-- memory.events: the counts of the group and of all groups below it
unfoldable pub events_of : Ledger → ℕ → EventCounts
events_of l g = option_map_or (λ a. a.events) (account_at l g) no_events

-- memory.events.local: the counts of the group itself
unfoldable pub events_local_of : Ledger → ℕ → EventCounts
events_local_of l g = option_map_or (λ a. a.events_local) (account_at l g) no_events

-- all pages that are charged
abbrev pub total_pages : List Account → ℕ
total_pages accounts = sum_by (λ a. a.pages) accounts

-- the pages charged to a group and to all groups below it
unfoldable pub usage_charged : List Group → List Account → ℕ → ℕ
usage_charged groups accounts g = sum_by (λ a. if in_subtree groups g a.group then a.pages else 0) accounts

-- memory.current: the usage of the group and its descendants, in pages
abbrev pub current_of : Ledger → ℕ → ℕ
current_of l g = usage_charged l.groups l.accounts g

-- the account with n more pages, if it is the group's
abbrev pub added : ℕ → ℕ → Account → Account
added g n a = if a.group == g then record a { pages = a.pages + n } else a

-- the account with n fewer pages, if it is the group's
abbrev pub taken : ℕ → ℕ → Account → Account
taken g n a = if a.group == g then record a { pages = a.pages - n } else a

-- the account with its peak raised to its usage, if it is the account of g or of an ancestor
abbrev pub peaked : List Group → List Account → ℕ → Account → Account
peaked groups accounts g a = record a { peak = peak_after groups (usage_charged groups accounts) g a.group a.peak }

-- the account after an event of this key at g: one more in the local counts of g, and in the counts of g and each
-- ancestor
abbrev pub with_event_at : EventKey → List Group → ℕ → Account → Account
with_event_at key groups g a = record a {
  events = on_path groups g (with_one_more key) a.group a.events;
  events_local = at_group g (with_one_more key) a.group a.events_local;
}

-- the account after a `max` event at g: one more in the local counts of g, and in the counts of g and each ancestor
abbrev pub max_noted : List Group → ℕ → Account → Account
max_noted groups g a = with_event_at Max groups g a

-- the accounts after n more pages for the group, with the peaks of the group and of its ancestors raised to their
-- usage
unfoldable pub charged : List Group → List Account → ℕ → ℕ → List Account
charged groups accounts g n = let more = map (added g n) accounts in map (peaked groups more g) more

-- the ledger after a granted charge: nothing else changes
abbrev pub with_charge : Ledger → ℕ → ℕ → Ledger
with_charge l g n = record l { accounts = charged l.groups l.accounts g n }

-- the ledger after n pages of the group were uncharged: the peaks stay
abbrev pub with_uncharge : Ledger → ℕ → ℕ → Ledger
with_uncharge l g n = record l { accounts = map (taken g n) l.accounts }

-- the ledger after an event of this key was counted at the group
abbrev pub with_noted : EventKey → Ledger → ℕ → Ledger
with_noted key l g = record l { accounts = map (with_event_at key l.groups g) l.accounts }

-- the ledger after one more `max` event of the group: a charge was about to exceed its limit
abbrev pub with_max_noted : Ledger → ℕ → Ledger
with_max_noted l g = with_noted Max l g

-- the ledger after one more `oom` event of the group: reclaim couldn't keep its limit
abbrev pub with_oom_noted : Ledger → ℕ → Ledger
with_oom_noted l g = with_noted Oom l g

-- the ledger after one more `oom_kill` event of the group: it was killed
abbrev pub with_kill_noted : Ledger → ℕ → Ledger
with_kill_noted l g = with_noted OomKill l g

-- the ledger after one more `oom_group_kill` event of the group: it was killed as a whole
abbrev pub with_group_kill_noted : Ledger → ℕ → Ledger
with_group_kill_noted l g = with_noted OomGroupKill l g

-- the ledger with this set for the group: nothing else changes
abbrev pub with_settings : Ledger → ℕ → ReclaimSettings → Ledger
with_settings l g settings = record l { settings = set l.settings g settings }

-- the ledger with a new group, which has an empty account and nothing set
abbrev pub with_new_group : Ledger → ℕ → List ℕ → Ledger
with_new_group l n path = record {
  groups = with_group l.groups n path;
  accounts = l.accounts ++ empty_account n ∷ [];
  settings = set l.settings n no_settings;
}

-- the ledger without the group, its account and what was set for it: the counts of its ancestors stay
abbrev pub with_group_removed : Ledger → ℕ → Ledger
with_group_removed l g = record {
  groups = without_group l.groups g;
  accounts = filter (λ a. not (a.group == g)) l.accounts;
  settings = set l.settings g no_settings;
}

-- the ledger with this limit of the group
abbrev pub with_group_limit : Ledger → ℕ → Option ℕ → Ledger
with_group_limit l g limit = record l { groups = with_limit l.groups g limit }

-- the ledger with this flag of the group: whether it is killed as a whole
abbrev pub with_oom_flag : Ledger → ℕ → Bool → Ledger
with_oom_flag l g flag = record l { groups = with_oom_group l.groups g flag }

-- the second ledger has n more pages in the usage of g and of each of its ancestors, and all other usages are equal
abbrev pub UsageRises : Ledger → Ledger → ℕ → ℕ → Type 0
UsageRises l k g n = (m : ℕ) → current_of k m ≡ on_path l.groups g (λ pages. pages + n) m (current_of l m)

-- the second ledger has n more pages charged to g itself, and the own pages of all other groups are equal
abbrev pub PagesRise : Ledger → Ledger → ℕ → ℕ → Type 0
PagesRise l k g n = (m : ℕ) → pages_of k m ≡ pages_of l m + (if m == g then n else 0)

-- each group has the same own pages in both
abbrev pub SamePages : Ledger → Ledger → Type 0
SamePages l k = (m : ℕ) → pages_of k m ≡ pages_of l m

-- each group has the same usage in both
abbrev pub SameUsage : Ledger → Ledger → Type 0
SameUsage l k = (m : ℕ) → current_of k m ≡ current_of l m

-- the peak of g and of each of its ancestors is the greater of its old peak and its present usage; all other peaks
-- are equal
abbrev pub PeaksRise : Ledger → Ledger → ℕ → Type 0
PeaksRise l k g = (m : ℕ) → peak_of k m ≡ peak_after l.groups (current_of k) g m (peak_of l m)

-- each group has the same peak in both
abbrev pub SamePeaks : Ledger → Ledger → Type 0
SamePeaks l k = (m : ℕ) → peak_of k m ≡ peak_of l m

-- each group has the same counts and the same local counts in both
pub record SameEvents (l k : Ledger) : Type 0 where
  pub events : (m : ℕ) → events_of k m ≡ events_of l m
  pub events_local : (m : ℕ) → events_local_of k m ≡ events_local_of l m

-- one more event of this key in the counts of g and of each of its ancestors, and in the local counts of g
pub record CountsEvent (key : EventKey) (l k : Ledger) (g : ℕ) : Type 0 where
  pub events : (m : ℕ) → events_of k m ≡ on_path l.groups g (with_one_more key) m (events_of l m)
  pub events_local : (m : ℕ) → events_local_of k m ≡ at_group g (with_one_more key) m (events_local_of l m)

-- One more event of this key is counted at g, and nothing else changes: each group has the same limit, usage, own pages
-- and peak.
pub record CountsOnly (key : EventKey) (l k : Ledger) (g : ℕ) : Type 0 where
  pub counts : CountsEvent key l k g
  pub groups : k.groups ≡ l.groups
  pub usage : SameUsage l k
  pub pages : SamePages l k
  pub peaks : SamePeaks l k

-- What holds of every ledger: the groups form a tree, each has an account, all pages together fit 32 bits, and no
-- peak is below the usage.
pub record AreCharges (l : Ledger) : Type 0 where
  pub groups : AreGroups l.groups
  pub numbers : map (λ a. a.group) l.accounts ≡ map (λ g. g.number) l.groups
  pub fits : total_pages l.accounts < 2 ^ 32
  pub peaks : All (λ a. current_of l a.group ≤ a.peak) l.accounts
