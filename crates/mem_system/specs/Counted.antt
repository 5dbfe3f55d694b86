-- What a visit finds counted.
use Rattle.std.specs.Prelude.{◌≡◌, ℕ, ◌++◌, true}
use Rattle.group_tree.specs.declared.event.EventKey.{EventKey}
use Rattle.group_tree.specs.{count_of, has_group}
use Rattle.group_charge.specs.Charges.{events_local_of, events_of, peak_of}
use Rattle.step_rules.specs.After.{Run}
use Rattle.boot_words.specs.{own_past, HasNoStepOf, KnownTable}
use Rattle.mem_machine.specs.Machines.{KnownMachine}
use Rattle.mem_system.specs.Locked.{IsSound, KnownLocked}

-- The units counted are the same, and so are the peak and the event counts of each group that is there.
pub record CountsStay (left found : KnownMachine) : Type 0 where
  pub counts : found.counts ≡ left.counts
  pub peak : (group : ℕ) → has_group found.ledger.groups group ≡ true
      → peak_of found.ledger group ≡ peak_of left.ledger group
  pub events : (key : EventKey) (group : ℕ) → has_group found.ledger.groups group ≡ true
      → count_of (events_of found.ledger group) key ≡ count_of (events_of left.ledger group) key
  pub events_local : (key : EventKey) (group : ℕ) → has_group found.ledger.groups group ≡ true
      → count_of (events_local_of found.ledger group) key ≡ count_of (events_local_of left.ledger group) key

-- Suppose that a visit left one sound value behind the lock, and that another was found, to whose zone's past only steps
-- of other seats were added. Then all counts are those that the visit left.
abbrev pub VisitsFindCounts : Type 0
VisitsFindCounts = (table : KnownTable) (left found : KnownLocked) (others : Run)
    → IsSound table left → IsSound table found
    → (own_past found.machine.run.past).seen ≡ (own_past left.machine.run.past).seen ++ others → HasNoStepOf 0 others
    → CountsStay left.machine found.machine
