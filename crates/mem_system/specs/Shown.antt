-- What is served before a text of the machine is written, and what a look at words leaves.
use Rattle.std.specs.Prelude.{◌≡◌, ℕ, List, Option, Some, None}
use Rattle.boot_words.specs.Tables.{KnownTable}
use Rattle.mem_system.specs.declared.command.LockedCommand.TheVariants.{Settle}
use Rattle.mem_system.specs.declared.outcome.Outcome.TheVariants.{Done}
use Rattle.machine_texts.specs.Units.{ReadsUnits}
use Rattle.mem_machine.specs.Machines.{KnownMachine}
use Rattle.mem_system.specs.Cpus.{CpuInRun}
use Rattle.mem_system.specs.Locked.{KnownLocked, IsSound}
use Rattle.mem_system.specs.Visits.{LockedState, locked_state, IsServed}

-- the command `Settle` was served, by its steps
abbrev pub SettlesCaller : KnownTable → (before after : LockedState) → Type 0
SettlesCaller table before after = IsServed table Settle Done before after

-- What a text through the lock says. Some sound value was behind the lock, the caller was settled in it, and a sound
-- value was left. `tells` holds of the machine that was left.
pub record ReadsUnderLock (table : KnownTable) (tells : KnownMachine → Type 0)
    (before after : CpuInRun) : Type 0 where
  pub found : KnownLocked
  pub left : KnownLocked
  pub sound_before : IsSound table found
  pub settles : SettlesCaller table (locked_state found before) (locked_state left after)
  pub sound_after : IsSound table left
  pub told : tells left.machine

-- What a text of the units of a group leaves, by the number of the group, if there is one. If there is none, `none`
-- holds. Else `tells` holds of the text of the group's kept units.
abbrev pub UnitsAt : KnownTable → Option ℕ → (none : Type 0) → (tells : List ℕ → Type 0) → (before after : KnownMachine) → Type 0
UnitsAt table None none tells before after = none × (after ≡ before)
UnitsAt table (Some group) none tells before after = ReadsUnits table group tells before after

-- What a text through the lock says if it needs looks at words. Some sound value was behind the lock, the caller was
-- settled in it, which left a sound value, and so did the looks. `tells` holds of the settled state and of the machine
-- that the looks left.
pub record ReadsAfterSettling (table : KnownTable)
    (tells : LockedState → KnownMachine → Type 0)
    (before after : CpuInRun) : Type 0 where
  pub found : KnownLocked
  pub settled : KnownLocked
  pub left : KnownLocked
  pub sound_before : IsSound table found
  pub settles : SettlesCaller table (locked_state found before) (locked_state settled after)
  pub sound_settled : IsSound table settled
  pub sound_after : IsSound table left
  pub told : tells (locked_state settled after) left.machine
