-- The steps of all threads as one legal run, and what it shows of each visit and of what was found.
use Rattle.std.specs.Prelude.{◌≡◌, ℕ, ◌++◌, true}
use Rattle.step_rules.specs.{Run, state_of, is_unheld, own_steps}
use Rattle.step_rules.specs.State.{State}
use Rattle.boot_words.specs.{hide, KnownPasts, own_past, zone_of_boot, KnownTable}
use Rattle.mem_machine.specs.{KnownMachine, IsShownBy}
use Rattle.mem_system.specs.declared.command.LockedCommand.{LockedCommand}
use Rattle.mem_system.specs.declared.outcome.Outcome.{Outcome}
use Rattle.mem_system.specs.{CpuInRun, between_locks, IsSound, KnownLocked, IsServed, LockedState}
use Rattle.script_replay.specs.Visits.{GrewByChanges}

-- the run begins with these steps
pub record IsBeginning (front run : Run) : Type 0 where
  pub rest : Run
  pub is : run ≡ front ++ rest

-- The state leaves the lock free. With every CPU's own part hidden, it is what the machine shows.
pub record IsStateOf (table : KnownTable) (machine : KnownMachine) (state : State) : Type 0 where
  pub free : is_unheld state.hold ≡ true
  pub shown : IsShownBy table machine (hide state)

-- A run has a visit of this CPU. Before it the run shows what was found, and after it what was left. Meanwhile the CPU and
-- the zone's seat make just the Lock, the steps of the visit and the Unlock.
pub record ShowsVisit (table : KnownTable) (run : Run) (cpu : ℕ) (steps : Run) (found left : KnownMachine)
    : Type 0 where
  pub before : Run
  pub during : Run
  pub after : Run
  pub is : run ≡ before ++ (during ++ after)
  pub found_is : IsStateOf table found (state_of (zone_of_boot table) before)
  pub own : own_steps cpu during ≡ between_locks cpu steps
  pub left_is : IsStateOf table left (state_of (zone_of_boot table) (before ++ during))

-- If a command was served in a visit, and the CPU's past after it is a beginning of a run, then this run shows the visit.
abbrev pub RunsShowVisits : Type 0
RunsShowVisits = (table : KnownTable) (cmd : LockedCommand) (outcome : Outcome)
    (before after : LockedState) (run : Run) → IsSound table before.locked
    → (served : IsServed table cmd outcome before after) → IsSound table after.locked
    → IsBeginning (own_past after.cpu.past).seen run
    → ShowsVisit table run before.cpu.part.number served.steps before.locked.machine after.locked.machine

-- the run shows this at some beginning of it
pub record ShowsFound (table : KnownTable) (run : Run) (found : KnownMachine) : Type 0 where
  pub before : Run
  pub after : Run
  pub is : run ≡ before ++ after
  pub found_is : IsStateOf table found (state_of (zone_of_boot table) before)

-- If a CPU has seen the run that led to what was found behind the lock, which is sound (`SeenBehindLock`), and the CPU's
-- past then is a beginning of a run, then this run shows what was found, such as its groups.
abbrev pub RunsShowFinds : Type 0
RunsShowFinds = (table : KnownTable) (found : KnownLocked) (after : CpuInRun) (run : Run)
    → IsSound table found → (own_past found.machine.run.past).seen ≡ (own_past after.past).seen
    → IsBeginning (own_past after.past).seen run → ShowsFound table run found.machine

-- A CPU's past is a beginning of its past after more steps.
abbrev pub PastsBegin : Type 0
PastsBegin = (before after : KnownPasts) (steps : Run) → GrewByChanges before steps after
    → IsBeginning (own_past before).seen (own_past after).seen
