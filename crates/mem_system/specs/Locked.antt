-- What lies behind the zone's lock, and what always holds of it.
use Rattle.std.specs.Prelude.{◌≡◌, ℕ, ◌≤◌, false}
use Rattle.boot_words.specs.{SeesMore, own_past, zone_of_boot, KnownTable}
use Rattle.zone_blocks.specs.declared.config.Config.{Config}
use Rattle.zone_blocks.specs.Config.{IsValidConfig}
use Rattle.group_charge.specs.Charges.{AreCharges}
use Rattle.mem_machine.specs.{AgreesWithRun, counts_along, no_counts, IsConsistent, KnownMachine, Rests}
use Rattle.mem_machine.specs.declared.counts.Counts.{Counts}
use Rattle.mem_system.specs.Boots.{IsSizedAs}
use Rattle.mem_system.specs.Cpus.{CpuInRun}
use Rattle.step_rules.specs.{Run, state_of, at_boot, visits}

-- what lies behind the lock: the machine, and the sizes of the boot
pub record KnownLocked : Type 0 where
  pub machine : KnownMachine
  pub sizes : Config

-- by the zone's past no visit is open
abbrev pub AllShut : KnownTable → KnownMachine → Type 0
AllShut table machine = (cpu : ℕ) → visits cpu (state_of (zone_of_boot table) (own_past machine.run.past).seen).hold ≡ false

-- how many units ended, were freed or were missed in a run from the boot on
abbrev pub counts_in : KnownTable → Run → Counts
counts_in table run = counts_along (at_boot (zone_of_boot table)) run no_counts

-- What the machine counted is what the zone's past counts: each group's peak and events, and how many units ended, were
-- freed or were missed.
pub record CountsItsRun (table : KnownTable) (machine : KnownMachine) : Type 0 where
  pub agrees : AgreesWithRun table (own_past machine.run.past).seen machine.ledger
  pub counts : machine.counts ≡ counts_in table (own_past machine.run.past).seen

-- While the lock is free, no visit is open, and the machine has what the zone's past counts. The sizes are in their ranges,
-- and the table has these sizes.
pub record IsQuiet (table : KnownTable) (locked : KnownLocked) : Type 0 where
  pub shut : AllShut table locked.machine
  pub rests : Rests table locked.machine
  pub counted : CountsItsRun table locked.machine
  pub valid : IsValidConfig locked.sizes
  pub sized : IsSizedAs locked.sizes table

-- What a call finds behind the lock, and leaves there. No visit is open, the machine is consistent, so it is what the
-- zone's past left, and the groups make up a tree, each with its account.
pub record IsSound (table : KnownTable) (locked : KnownLocked) : Type 0 where
  pub quiet : IsQuiet table locked
  pub consistent : IsConsistent table locked.machine
  pub charges : AreCharges locked.machine.ledger

-- `IsSo` holds of some sound value that was behind the lock while the lock was free. No clause can name that value,
-- because no clause can look through the lock.
pub record BehindLock (table : KnownTable) (IsSo : KnownLocked → Type 0) : Type 0 where
  pub locked : KnownLocked
  pub sound : IsSound table locked
  pub so : IsSo locked

-- `IsSo` holds of some sound value that was behind the lock while the lock was free, and the CPU has then seen the run that
-- led to it. The CPU made no step: its past has grown by others' steps alone.
pub record SeenBehindLock (table : KnownTable) (IsSo : KnownLocked → Type 0)
    (before after : CpuInRun) : Type 0 where
  pub locked : KnownLocked
  pub sound : IsSound table locked
  pub part : after.part ≡ before.part
  pub last : after.last ≡ before.last
  pub sees : SeesMore (own_past before.past) (own_past after.past)
  pub same : (own_past locked.machine.run.past).seen ≡ (own_past after.past).seen
  pub so : IsSo locked

-- a vector for the CPUs' seats: it is empty, and has room for that of each CPU
pub record IsEmptyWithRoom (cpus count room : ℕ) : Type 0 where
  pub empty : count ≡ 0
  pub enough : cpus ≤ room
