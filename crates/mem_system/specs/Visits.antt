-- How a command is served: in a visit of its CPU, under the lock.
use Rattle.std.specs.Prelude.{◌≡◌, ℕ, false, [], ◌++◌}
use Rattle.zone_blocks.specs.declared.config.Config.{Config}
use Rattle.boot_words.specs.Pasts.{Locks, Unlocks}
use Rattle.step_rules.specs.After.{Run}
use Rattle.boot_words.specs.Tables.{KnownTable}
use Rattle.mem_machine.specs.{KnownMachine, with_run, without_notes, VisitState, visit_state, Holds, IsShut, Makes, KnownRun, Settles, settle_steps}
use Rattle.mem_machine.specs.{stock_left, open_steps, shut_steps}
use Rattle.mem_reclaim.specs.Moves.{has_kill}
-- a call, described by the state before it, its steps and the state after it
pub use Rattle.mem_machine.specs.Transitions.{Transition, transition}
use Rattle.mem_reclaim.specs.Moves.{CountsMisses}
use Rattle.mem_alloc.specs.NoRash.{NoRashKill}
use Rattle.mem_system.specs.declared.command.LockedCommand.{LockedCommand}
use Rattle.mem_system.specs.declared.outcome.Outcome.{Outcome}
use Rattle.mem_system.specs.Locked.{KnownLocked, IsSound}
use Rattle.mem_system.specs.Asks.{MayAskFor}
use Rattle.mem_system.specs.Cpus.{CpuInRun, VisitsInRun}
use Rattle.mem_system.specs.Commands.{Executes, ListAndFreshStayWithin, NamesWhatExists}

-- the visit state after all earlier notes are forgotten
abbrev pub begun : VisitState → VisitState
begun before = visit_state (without_notes before.machine) before.cpu

-- the visit state with another run
abbrev pub with_run_at : VisitState → KnownRun → VisitState
with_run_at now run = visit_state (with_run now.machine run) now.cpu

-- what lies behind the lock, with a CPU
pub record LockedState : Type 0 where
  pub locked : KnownLocked
  pub cpu : CpuInRun

-- the locked state with this CPU, and this behind the lock
abbrev pub locked_state : KnownLocked → CpuInRun → LockedState
locked_state locked cpu = record { locked = locked; cpu = cpu }

-- the visit state in the locked state: the machine behind the lock, and the CPU's part
abbrev pub visit_state_of : LockedState → VisitState
visit_state_of now = visit_state now.locked.machine now.cpu.part

-- the steps of a visit: it is opened, its CPU is settled, the inner steps are made, and it is shut
abbrev pub visit_steps : KnownTable → VisitState → Run → Run
visit_steps table before inner =
    open_steps before.cpu.number ++ (settle_steps table before ++ (inner ++ shut_steps before.cpu.number))

-- A command under the lock. Earlier notes are forgotten, the caller's visit is opened, the caller is settled, the
-- command is executed, and the visit is shut. What the command names exists. The command kills a group only after it tried everything else that
-- memory.min doesn't keep, and only its own steps kill. The misses that are noted are those among its steps.
pub record Serves (cmd : LockedCommand) (outcome : Outcome) (call : Transition LockedState) : Type 0 where
  pub settled : VisitState
  pub seen : KnownRun
  pub settles : Settles call.table (with_run_at (begun (visit_state_of call.before)) seen) settled
  pub names : NamesWhatExists call.table settled.machine.ledger.groups cmd
  pub inner : Run
  pub done : KnownMachine
  pub executes : Executes call.before.locked.sizes cmd outcome
      (transition call.table settled inner (visit_state done call.after.cpu.part))
  pub no_rash : NoRashKill call.table (MayAskFor cmd settled.machine.ledger.groups) settled.machine inner
  pub only_inner : has_kill (visit_steps call.table (visit_state_of call.before) []) ≡ false
  pub misses : CountsMisses (transition call.table settled.machine inner done)
  pub machine : call.after.locked.machine ≡ with_run done call.after.locked.machine.run
  pub sizes : call.after.locked.sizes ≡ call.before.locked.sizes
  pub steps_are : call.steps ≡ visit_steps call.table (visit_state_of call.before) inner

-- The CPU takes the lock, which the watch doesn't see. It holds the lock with this run, and its visit is shut.
pub record TakesLock (table : KnownTable) (before : LockedState) (found : KnownRun) : Type 0 where
  pub locks : Locks table before.locked.machine.run.past before.cpu.past found.past
  pub watch : found.watch ≡ before.locked.machine.run.watch
  pub holds : Holds table (with_run before.locked.machine found) before.cpu.part
  pub shut : IsShut table (with_run before.locked.machine found) before.cpu.part.number

-- The CPU holds the lock with this run, its visit is shut, and it releases the lock, which the watch doesn't see.
pub record ReleasesLock (table : KnownTable) (left : KnownRun) (after : LockedState) : Type 0 where
  pub holds : Holds table (with_run after.locked.machine left) after.cpu.part
  pub shut : IsShut table (with_run after.locked.machine left) after.cpu.part.number
  pub watch : after.locked.machine.run.watch ≡ left.watch
  pub unlocks : Unlocks table left.past after.locked.machine.run.past after.cpu.past

-- A command was served under the lock with this outcome. The CPU took the lock, and found this run. It opened its visit by
-- the first of these steps. They lead from the machine with that run to the machine with the run that the CPU left, and the
-- machine's counts follow them. Then the CPU released the lock.
pub record IsServed (table : KnownTable) (cmd : LockedCommand) (outcome : Outcome)
    (before after : LockedState) : Type 0 where
  pub steps : Run
  pub serves : Serves cmd outcome (transition table before steps after)
  pub found : KnownRun
  pub left : KnownRun
  pub taken : TakesLock table before found
  pub opens : Makes table (with_run before.locked.machine found) (open_steps before.cpu.part.number)
      (with_run before.locked.machine serves.seen)
  pub makes : Makes table (with_run before.locked.machine found) steps (with_run after.locked.machine left)
  pub released : ReleasesLock table left after
  pub run : VisitsInRun before.cpu.part.number steps before.locked.machine.run.past before.cpu.past
      after.locked.machine.run.past after.cpu.past

-- What a visit leaves. If the CPU's list had at most `high` frames, its list and its fresh frames together have at most
-- `high`. The CPU has seen its stock as it is.
pub record EndsVisit (table : KnownTable) (before after : LockedState) : Type 0 where
  pub at_most_high : ListAndFreshStayWithin before.locked.sizes before.cpu.part after.cpu.part
  pub last : after.cpu.last ≡ stock_left table after.locked.machine after.cpu.part.number

-- What a visit through the lock says. Some sound value was behind the lock, with these sizes. The CPU was served with
-- it, and a sound value was left.
pub record IsVisited (table : KnownTable) (sizes : Config)
    (Served : LockedState → LockedState → Type 0) (before after : CpuInRun) : Type 0 where
  pub found : KnownLocked
  pub left : KnownLocked
  pub sizes_are : found.sizes ≡ sizes
  pub sound_before : IsSound table found
  pub served : Served (locked_state found before) (locked_state left after)
  pub sound_after : IsSound table left
