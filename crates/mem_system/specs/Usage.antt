-- How a group's usage is lowered to a limit.
use Rattle.std.specs.Prelude.{◌≡◌, ℕ, ◌<◌, ◌≤◌, Option, Some, None, List, ◌++◌}
use Rattle.group_charge.specs.Charges.{current_of}
use Rattle.group_charge.specs.declared.note.Note.TheVariants.{High}
use Rattle.step_rules.specs.After.{Run}
use Rattle.mem_machine.specs.{KnownMachine, with_note, Makes, Drain, drain_stocks_steps, DrainsAllBelow, AreDrained, Transition, transition}
use Rattle.mem_machine.specs.{MachineStays}
use Rattle.mem_reclaim.specs.{FreesBySteps, ReclaimsRounds, max_rounds, pages_missing, Keeps, MissedAll}
use Rattle.mem_alloc.specs.{with_limit_noted, KillsForRoom, KillsIfAllowed}

-- The stocks of the group's subtree are drained. Then its units are reclaimed, in at most 16 rounds, while its usage is
-- above the limit. If the usage is above the limit even after that, each clean unit that the subtree still keeps was
-- tried and missed, or memory.min keeps it.
pub record LowersUsage (group limit : ℕ) (call : Transition KnownMachine) : Type 0 where
  pub drains : List Drain
  pub drained : KnownMachine
  pub drains_all : DrainsAllBelow call.table group call.table.cpus drains call.before drained
  pub none_held : AreDrained call.table group drained
  pub drain_runs : Makes call.table call.before (drain_stocks_steps drains) drained
  pub freed : ℕ
  pub reclaims : FreesBySteps call.table freed drained call.after
      (ReclaimsRounds group (pages_missing group 0 limit) max_rounds)
  pub missed : limit < current_of call.after.ledger group → MissedAll group drained call.after
  pub keeps : Keeps call.table drained call.after
  pub steps_are : call.steps ≡ drain_stocks_steps drains ++ reclaims.steps

-- It is noted that the limit has no room, and the group's usage is lowered. If it is still above the limit, victims of
-- the group are killed, if the boot allows that; nobody asks for pages here.
pub record LowersByKills (group limit : ℕ) (call : Transition KnownMachine) : Type 0 where
  pub lowered : KnownMachine
  pub lowering : Run
  pub killing : Run
  pub lowers : LowersUsage group limit (transition call.table (with_limit_noted call.before group 0) lowering lowered)
  pub kills : KillsIfAllowed (KillsForRoom None group 0) (transition call.table lowered killing call.after)
  pub steps_are : call.steps ≡ lowering ++ killing

-- if the group's usage is above the limit, it is lowered, if needed by kills; else nothing is done
pub record LowersAbove (group limit : ℕ) (call : Transition KnownMachine) : Type 0 where
  pub above : limit < current_of call.before.ledger group → LowersByKills group limit call
  pub within : current_of call.before.ledger group ≤ limit → MachineStays call

-- the machine after a note that this memory.high of the group was written below its usage
abbrev pub with_high_told : KnownMachine → (group high : ℕ) → KnownMachine
with_high_told machine group high = with_note machine (High group high (current_of machine.ledger group) 0)

-- if the group's usage is above this memory.high, that is noted, and the usage is lowered; nobody is killed
pub record LowersAboveHigh (group high : ℕ) (call : Transition KnownMachine) : Type 0 where
  pub above : high < current_of call.before.ledger group
      → LowersUsage group high
      (transition call.table (with_high_told call.before group high) call.steps call.after)
  pub within : current_of call.before.ledger group ≤ high → MachineStays call

-- if the group has a memory.high, its usage is lowered to it
abbrev pub LowersToHigh : (group : ℕ) → Option ℕ → Transition KnownMachine → Type 0
LowersToHigh group None call = MachineStays call
LowersToHigh group (Some high) call = LowersAboveHigh group high call

-- if the group has a limit, its usage is kept to it
abbrev pub KeepsToLimit : (group : ℕ) → Option ℕ → Transition KnownMachine → Type 0
KeepsToLimit group None call = MachineStays call
KeepsToLimit group (Some limit) call = LowersAbove group limit call
