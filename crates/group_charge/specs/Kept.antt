-- What is kept for each group by its number: its account, its usage and what is set for it. The usage is stored rather
-- than summed at each read.
use Rattle.std.specs.Prelude.{◌≡◌, ℕ, max, Option, List, length, map, set, if◌then◌else◌}
use Rattle.std.specs.List.{slice_index_or}
use Rattle.group_tree.specs.declared.group.Group.{Group}
use Rattle.group_tree.specs.{is_passed, room_of, with_one_more, on_path}
use Rattle.group_tree.specs.declared.event.EventKey.{EventKey}
use Rattle.group_charge.specs.Charges.{Account, AreCharges, Ledger, ReclaimSettings, current_of, empty_account}

-- the account kept under this number
abbrev pub account_by : List Account → ℕ → Account
account_by accounts g = slice_index_or accounts g (empty_account 0)

-- the usage kept under this number, in pages
abbrev pub usage_by : List ℕ → ℕ → ℕ
usage_by usages g = slice_index_or usages g 0

-- the accounts of these groups, in the order of the groups
abbrev pub accounts_of : List Group → List Account → List Account
accounts_of groups accounts = map (λ (x : Group). account_by accounts x.number) groups

-- these groups with their accounts, and what is set
abbrev pub ledger_of : List Group → List Account → List ReclaimSettings → Ledger
ledger_of groups accounts settings = record {
  groups = groups;
  accounts = accounts_of groups accounts;
  settings = settings;
}

-- each stored usage is the sum of the own pages of the group of that number and of all groups below it; 0 if there is
-- no such group
pub record AreUsages (l : Ledger) (usages : List ℕ) : Type 0 where
  pub size : length usages ≡ room_of l.groups
  pub sums : (g : ℕ) → usage_by usages g ≡ current_of l g

-- what holds of all that is kept: of accounts, usages and what is set
pub record AreSoundCharges (groups : List Group) (accounts : List Account) (usages : List ℕ)
    (settings : List ReclaimSettings) : Type 0 where
  pub charges : AreCharges (ledger_of groups accounts settings)
  pub size : length accounts ≡ room_of groups
  pub usages_are : AreUsages (ledger_of groups accounts settings) usages

-- ---- what a walk changes
-- f changes the usage of each group that the walk from g passes before it reaches `next`, or of the whole path if
-- that is None; no other usage changes
abbrev pub UsagesPassed : List Group → ℕ → Option ℕ → (ℕ → ℕ) → List ℕ → List ℕ → Type 0
UsagesPassed groups g next f old new =
    (m : ℕ) → usage_by new m ≡ (if is_passed groups g next m then f (usage_by old m) else usage_by old m)

-- f changes the accounts of g and of each of its ancestors, and no other
abbrev pub AccountsOnPath : List Group → ℕ → (ℕ → Account → Account) → List Account → List Account → Type 0
AccountsOnPath groups g f old new = (m : ℕ) → account_by new m ≡ on_path groups g (f m) m (account_by old m)

-- the account with its peak raised to the usage of group m
abbrev pub with_usage_peak : List ℕ → ℕ → Account → Account
with_usage_peak usages m a = record a { peak = max a.peak (usage_by usages m) }

-- the account with one more event of this key in its hierarchical counts
abbrev pub with_event : EventKey → ℕ → Account → Account
with_event key m a = record a { events = with_one_more key a.events }

-- the accounts with one more event of this key in the local counts of group g
abbrev pub with_local_event : EventKey → ℕ → List Account → List Account
with_local_event key g accounts =
    let a = account_by accounts g in set accounts g (record a { events_local = with_one_more key a.events_local })
