-- What each reclaim keeps, and what it tried.
use Rattle.std.specs.Prelude.{◌≡◌, ◌≢◌, ℕ, ◌+◌, ◌<◌, ◌≤◌, ◌⊎◌, true, false, Some, None, List}
use Rattle.group_tree.specs.{in_subtree}
use Rattle.group_charge.specs.Charges.{current_of}
use Rattle.group_protection.specs.Protections.{IsKeptByMin}
use Rattle.lru_lists.specs.declared.record.Link.{Link}
use Rattle.lru_lists.specs.declared.record.Home.{Home}
use Rattle.lru_lists.specs.declared.record.LruList.{LruList}
use Rattle.lru_lists.specs.{link_at, owner_of}
use Rattle.boot_words.specs.Tables.{KnownTable}
use Rattle.mem_machine.specs.{HeadsKeptUnit, KnownMachine, home_of, part_at, StaysVisited}
use Rattle.mem_reclaim.specs.Moves.{misses_of}

-- the frame heads a kept unit that is dirty
pub record IsDirtyUnit (links : List Link) (frame : ℕ) : Type 0 where
  pub kept : home_of links frame ≢ None
  pub dirty : (link_at links frame).is_dirty ≡ true

-- What a reclaim keeps. Stocks, killed groups, groups with their limits and settings, and each visit stay; no visit is
-- opened or shut. No usage rises. No dirty unit is freed. Each unit that is kept was kept for the same group, and is as
-- dirty as before. No miss is forgotten.
pub record Keeps (table : KnownTable) (before after : KnownMachine) : Type 0 where
  pub stocks : (cpu : ℕ) → part_at table after cpu ≡ part_at table before cpu
  pub killed : after.killed ≡ before.killed
  pub groups : after.ledger.groups ≡ before.ledger.groups
  pub settings : after.ledger.settings ≡ before.ledger.settings
  pub usage : (group : ℕ) → current_of after.ledger group ≤ current_of before.ledger group
  pub visit : StaysVisited table before after
  pub dirty : (frame : ℕ) → IsDirtyUnit before.links frame → IsDirtyUnit after.links frame
  pub owners : (frame : ℕ) → HeadsKeptUnit after frame
      → owner_of (home_of after.links frame) ≡ owner_of (home_of before.links frame)
  pub dirt : (frame : ℕ) → HeadsKeptUnit after frame
      → (link_at after.links frame).is_dirty ≡ (link_at before.links frame).is_dirty
  pub misses : (frame : ℕ) → misses_of before frame ≤ misses_of after frame

-- no unit joined a list: each unit that is on a list was on the same list
abbrev pub OnlyLeave : KnownMachine → KnownMachine → Type 0
OnlyLeave before after =
    (frame : ℕ) (home : Home) → home_of after.links frame ≡ Some home → home_of before.links frame ≡ Some home

-- the usage of the group, and of each of its ancestors, fell by this many pages
abbrev pub UsageFalls : ℕ → ℕ → KnownMachine → KnownMachine → Type 0
UsageFalls group pages before after =
    (above : ℕ) → in_subtree before.ledger.groups above group ≡ true
    → current_of after.ledger above + pages ≡ current_of before.ledger above

-- a freeze of the frame missed in between, if it heads a clean unit that is still on this list
abbrev pub IsMissed : KnownMachine → KnownMachine → ℕ → Home → Type 0
IsMissed before after frame home =
    home_of after.links frame ≡ Some home → (link_at after.links frame).is_dirty ≡ false
    → misses_of before frame < misses_of after frame

-- a freeze of each clean unit that is still on this list of the group missed in between
abbrev pub MissedOnList : ℕ → LruList → KnownMachine → KnownMachine → Type 0
MissedOnList group list before after =
    (frame : ℕ) → IsMissed before after frame (record { owner = group; list = list })

-- a freeze of each clean unit that the group still keeps missed in between
abbrev pub MissedOfGroup : ℕ → KnownMachine → KnownMachine → Type 0
MissedOfGroup group before after =
    (frame : ℕ) (list : LruList) → IsMissed before after frame (record { owner = group; list = list })

-- a freeze of each clean unit that the group still keeps missed in between, or memory.min keeps its pages from a
-- reclaim for `limited`
abbrev pub MissedOrKept : (limited group : ℕ) → KnownMachine → KnownMachine → Type 0
MissedOrKept limited group before after =
    MissedOfGroup group before after ⊎ IsKeptByMin before.ledger after.ledger limited group

-- this holds of each group of the subtree
abbrev pub MissedAll : ℕ → KnownMachine → KnownMachine → Type 0
MissedAll group before after =
    (other : ℕ) → in_subtree after.ledger.groups group other ≡ true → MissedOrKept group other before after
