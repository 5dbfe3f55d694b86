-- What the ledger's peaks and event counts say of a run, and that each call keeps this true.
use Rattle.std.specs.Prelude.{◌≡◌, ℕ, ◌++◌, true}
use Rattle.group_tree.specs.declared.event.EventKey.{EventKey}
use Rattle.group_tree.specs.{count_of, has_group}
use Rattle.group_charge.specs.Charges.{Ledger, peak_of, events_of, events_local_of}
use Rattle.step_rules.specs.{Run, state_of, IsPeak, events_in, events_local_in}
use Rattle.boot_words.specs.{zone_of_boot, KnownTable}
use Rattle.mem_machine.specs.Local.{lock_holder, Makes}
use Rattle.mem_machine.specs.Machines.{KnownMachine}
use Rattle.mem_machine.specs.Interleaving.{Shows, IsInterleaving}

-- for each group that exists after the run, the ledger has the peak that the group reached in the run, and the counts
-- of the events that the run noted
pub record AgreesWithRun (table : KnownTable) (run : Run) (ledger : Ledger) : Type 0 where
  pub peak : (group : ℕ) → has_group (state_of (zone_of_boot table) run).groups group ≡ true
      → IsPeak (zone_of_boot table) run group (peak_of ledger group)
  pub events : (key : EventKey) (group : ℕ) → has_group (state_of (zone_of_boot table) run).groups group ≡ true
      → count_of (events_of ledger group) key ≡ events_in key (zone_of_boot table) run group
  pub events_local : (key : EventKey) (group : ℕ) → has_group (state_of (zone_of_boot table) run).groups group ≡ true
      → count_of (events_local_of ledger group) key ≡ events_local_in key (zone_of_boot table) run group

-- Suppose that a run shows a CPU the machine, that the ledger has the run's peaks and event counts, and that a call
-- makes these steps. Mix in any steps that other CPUs may make. Then the ledger after the call has the peaks and event
-- counts of the longer run.
abbrev pub LedgersAgree : Type 0
LedgersAgree = (table : KnownTable) (run steps mixed : Run) (before after : KnownMachine)
    → Shows table run before → AgreesWithRun table run before.ledger → Makes table before steps after
    → IsInterleaving table run (lock_holder before) steps mixed → AgreesWithRun table (run ++ mixed) after.ledger
