-- What a read of a group's file shows, and what a write of its settings does.
use Rattle.std.specs.Prelude.{◌≡◌, ◌≢◌, ℕ, ◌+◌, ◌<◌, ◌≤◌, Bool, Option, [], ◌++◌}
use Rattle.group_tree.specs.declared.fault.Fault.TheVariants.{NoFile, Again, WriteOnly}
use Rattle.group_charge.specs.Charges.{current_of, settings_of, with_group_limit, with_oom_flag, with_settings}
use Rattle.control_files.specs.declared.file.File.{File}
use Rattle.control_files.specs.declared.file.File.TheVariants as file
use Rattle.step_rules.specs.After.{Run}
use Rattle.machine_texts.specs.{memory_stat}
use Rattle.mem_machine.specs.{KnownMachine, with_run, Makes, KnownRun, set_max_steps, set_oom_group_steps, Transition, MachineStays, transition}
use Rattle.mem_reclaim.specs.{FreesBySteps, ReclaimsAmount, Keeps, MissedAll}
use Rattle.mem_system.specs.declared.outcome.Outcome.{Outcome}
use Rattle.mem_system.specs.declared.outcome.Outcome.TheVariants.{Text, Stat, Done, Refused}
use Rattle.mem_system.specs.declared.setting.Setting.{Setting}
use Rattle.mem_system.specs.declared.setting.Setting.TheVariants.{Max, High, Low, Min, OomGroup, Reclaim}
use Rattle.mem_system.specs.Usage.{KeepsToLimit, LowersToHigh}

-- Read: memory.stat shows what the machine keeps, and memory.reclaim can't be read; each other file shows what the ledger
-- says
abbrev pub read_outcome : KnownMachine → (group : ℕ) → File → Outcome
read_outcome machine group file.Stat = Stat (memory_stat machine group)
read_outcome machine group file.Reclaim = Refused WriteOnly
read_outcome machine group other = Text group other

-- the machine with another limit of the group
abbrev pub with_limit_of : KnownMachine → (group : ℕ) → Option ℕ → KnownMachine
with_limit_of machine group limit = record machine { ledger = with_group_limit machine.ledger group limit }

-- the group gets the limit, and then its usage is kept to it
pub record SetsLimit (group : ℕ) (limit : Option ℕ) (call : Transition KnownMachine) : Type 0 where
  pub lowering : Run
  pub seen : KnownRun
  pub sets : Makes call.table call.before (set_max_steps group limit)
      (with_run (with_limit_of call.before group limit) seen)
  pub keeps : KeepsToLimit group limit
      (transition call.table (with_run (with_limit_of call.before group limit) seen) lowering call.after)
  pub steps_are : call.steps ≡ set_max_steps group limit ++ lowering

-- the machine with another memory.high of the group; no step sets it, since no rule reads it
abbrev pub with_high_of : KnownMachine → (group : ℕ) → Option ℕ → KnownMachine
with_high_of machine group limit = record machine {
  ledger = with_settings machine.ledger group (record (settings_of machine.ledger group) { high = limit });
}

-- the same with another memory.low
abbrev pub with_low_of : KnownMachine → (group : ℕ) → Option ℕ → KnownMachine
with_low_of machine group limit = record machine {
  ledger = with_settings machine.ledger group (record (settings_of machine.ledger group) { low = limit });
}

-- and with another memory.min
abbrev pub with_min_of : KnownMachine → (group : ℕ) → Option ℕ → KnownMachine
with_min_of machine group limit = record machine {
  ledger = with_settings machine.ledger group (record (settings_of machine.ledger group) { min = limit });
}

-- the limit becomes the group's memory.high, and then its usage is lowered to it
abbrev pub SetsHigh : (group : ℕ) → Option ℕ → Transition KnownMachine → Type 0
SetsHigh group limit call =
    LowersToHigh group limit (transition call.table (with_high_of call.before group limit) call.steps call.after)

-- the machine is now this one; no step is made
abbrev pub BecomesSilently : KnownMachine → Transition KnownMachine → Type 0
BecomesSilently machine call = (call.after ≡ machine) × (call.steps ≡ [])

-- the machine with another flag of the group: whether it is killed as a whole
abbrev pub with_flag_of : KnownMachine → (group : ℕ) → Bool → KnownMachine
with_flag_of machine group flag = record machine { ledger = with_oom_flag machine.ledger group flag }

-- the group gets the flag, by one step, and nothing else changes: nobody is killed, and nothing is noted
pub record SetsFlag (group : ℕ) (flag : Bool) (call : Transition KnownMachine) : Type 0 where
  pub machine : call.after ≡ with_run (with_flag_of call.before group flag) call.after.run
  pub steps_are : call.steps ≡ set_oom_group_steps group flag

-- This many pages of the group's subtree are reclaimed, by these steps alone. Stocks and killed groups stay, and no
-- dirty unit is freed. If fewer pages are freed than asked for, each clean unit that the subtree still keeps was tried
-- and missed, or memory.min keeps it.
pub record ReclaimsAsked (group asked : ℕ) (Ends : (freed : ℕ) → Type 0) (call : Transition KnownMachine) : Type 0 where
  pub freed : ℕ
  pub reclaims : FreesBySteps call.table freed call.before call.after (ReclaimsAmount group asked)
  pub missed : freed < asked → MissedAll group call.before call.after
  pub usage : current_of call.after.ledger group + freed ≡ current_of call.before.ledger group
  pub keeps : Keeps call.table call.before call.after
  pub ends : Ends freed
  pub steps_are : call.steps ≡ reclaims.steps

-- what a setting of the group changes, and what is done for it
abbrev pub Sets : (group : ℕ) → Setting → Transition KnownMachine → Type 0
Sets group (Max limit) call = SetsLimit group limit call
Sets group (High limit) call = SetsHigh group limit call
Sets group (Low limit) call = BecomesSilently (with_low_of call.before group limit) call
Sets group (Min limit) call = BecomesSilently (with_min_of call.before group limit) call
Sets group (OomGroup flag) call = SetsFlag group flag call
Sets group (Reclaim asked) call = ReclaimsAsked group asked (λ freed. asked ≤ freed) call

-- fewer pages are freed than memory.reclaim asks for, and these stay freed
abbrev pub FallsShort : (group : ℕ) → Setting → Transition KnownMachine → Type 0
FallsShort group (Reclaim asked) call = ReclaimsAsked group asked (λ freed. freed < asked) call
FallsShort group other call = ⊥

-- Write: the setting is made; or the group is the root, which has no file; or the write falls short
abbrev pub Writes : (group : ℕ) → Setting → Outcome → Transition KnownMachine → Type 0
Writes group setting Done call = (group ≢ 0) × Sets group setting call
Writes group setting (Refused NoFile) call = (group ≡ 0) × MachineStays call
Writes group setting (Refused Again) call = (group ≢ 0) × FallsShort group setting call
Writes group setting other call = ⊥
