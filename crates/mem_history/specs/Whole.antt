-- One run that shows the machine and the part of every CPU, and how a line continues it.
use Rattle.std.specs.Prelude.{◌≡◌, ℕ, suc, true, Some, List, [], ◌∷◌, ◌++◌, length, slice_get, slice_set}
use Rattle.cpu_part.specs.{KnownCpuLists, HasOwn}
use Rattle.step_rules.specs.declared.step.Action.{Action}
use Rattle.step_rules.specs.declared.step.Action.TheVariants.{Lock, Unlock}
use Rattle.step_rules.specs.declared.step.Answer.{Answer}
use Rattle.step_rules.specs.declared.step.Answer.TheVariants.{Done}
use Rattle.step_rules.specs.State.{State, is_unheld}
use Rattle.step_rules.specs.After.{Run, after, state_of, IsLegalRun, cpu_makes}
use Rattle.boot_words.specs.{hide, IsFast, zone_of_boot, KnownTable}
use Rattle.mem_machine.specs.{AgreesWithRun, KnownMachine, VisitState, left_by, with_run, Holds, IsShut, Makes, Shows}

-- the machine's past left this state, except who holds the lock, with every CPU's own part hidden
abbrev pub LeavesState : KnownTable → KnownMachine → State → Type 0
LeavesState table machine state =
    left_by table machine.run.past ≡ record (hide state) { hold = (left_by table machine.run.past).hold }

-- the part at this index is that of the CPU with the next number; its lists and pins are the CPU's in this state
pub record IsPartAt (state : State) (index : ℕ) (cpu : KnownCpuLists) : Type 0 where
  pub number : cpu.number ≡ suc index
  pub own : HasOwn state cpu

-- The run shows the whole. It is legal and leaves the lock free. It leaves what the machine's past left. There is one part
-- for each CPU, and each has what the run leaves of it.
pub record ShowsAll (table : KnownTable) (run : Run) (machine : KnownMachine) (cpus : List KnownCpuLists) : Type 0 where
  pub legal : IsLegalRun (zone_of_boot table) run
  pub free : is_unheld (state_of (zone_of_boot table) run).hold ≡ true
  pub left : LeavesState table machine (state_of (zone_of_boot table) run)
  pub count : length cpus ≡ table.cpus
  pub each : (index : ℕ) (cpu : KnownCpuLists) → slice_get cpus index ≡ Some cpu
      → IsPartAt (state_of (zone_of_boot table) run) index cpu

-- the pasts of both machines left the same, except who holds the lock
abbrev pub LeaveTheSame : KnownTable → KnownMachine → KnownMachine → Type 0
LeaveTheSame table machine other = left_by table other.run.past
    ≡ record (left_by table machine.run.past) { hold = (left_by table other.run.past).hold }

-- if a run shows the whole, it still does if only the lock was taken or released, or more of others' steps was seen
abbrev pub TheSameIsShown : Type 0
TheSameIsShown = (table : KnownTable) (run : Run) (machine other : KnownMachine) (cpus : List KnownCpuLists)
    → ShowsAll table run machine cpus → LeaveTheSame table machine other → ShowsAll table run other cpus

-- the CPU whose part is at this index holds the lock, and its visit isn't open
pub record HasTakenLock (table : KnownTable) (cpus : List KnownCpuLists) (index : ℕ) (now : VisitState) : Type 0 where
  pub is_part : slice_get cpus index ≡ Some now.cpu
  pub holds : Holds table now.machine now.cpu
  pub shut : IsShut table now.machine now.cpu.number

-- if a run shows the whole and a CPU has taken the lock, the run with that Lock shows this CPU the machine
abbrev pub TheHolderIsShown : Type 0
TheHolderIsShown = (table : KnownTable) (run : Run) (cpus : List KnownCpuLists) (index : ℕ) (now : VisitState)
    → ShowsAll table run now.machine cpus → HasTakenLock table cpus index now
    → Shows table (run ++ cpu_makes now.cpu.number Lock Done ∷ []) now.machine

-- ---- a line under the lock

-- The longer run shows this machine and these parts. If the ledger before had the peaks and event counts of the run, the
-- ledger now has those of the longer run.
pub record GoesOnTo (table : KnownTable) (run : Run) (before : KnownMachine) (longer : Run) (after : KnownMachine)
    (cpus : List KnownCpuLists) : Type 0 where
  pub shows : ShowsAll table longer after cpus
  pub agrees : AgreesWithRun table run before.ledger → AgreesWithRun table longer after.ledger

-- the CPU takes the lock, makes these steps with the zone's seat, and releases the lock
abbrev pub under_lock : ℕ → Run → Run
under_lock cpu steps = cpu_makes cpu Lock Done ∷ (steps ++ cpu_makes cpu Unlock Done ∷ [])

-- the CPU whose part is at this index has taken the lock, makes these steps under it, and still holds it then
pub record ServesAt (table : KnownTable) (cpus : List KnownCpuLists) (index : ℕ)
    (before : VisitState) (steps : Run) (after : VisitState) : Type 0 where
  pub taken : HasTakenLock table cpus index before
  pub leads : Makes table before.machine steps after.machine
  pub holds : Holds table after.machine after.cpu

-- if a run shows the whole and continues legally with the line, then the longer run shows the whole after the line
abbrev pub LinesFollow : Type 0
LinesFollow = (table : KnownTable) (run : Run) (cpus : List KnownCpuLists) (index : ℕ) (before : VisitState) (steps : Run)
    (after : VisitState) → ShowsAll table run before.machine cpus → ServesAt table cpus index before steps after
    → IsLegalRun (zone_of_boot table) (run ++ under_lock before.cpu.number steps)
    → GoesOnTo table run before.machine (run ++ under_lock before.cpu.number steps) after.machine
    (slice_set cpus index after.cpu)

-- ---- a call that takes no lock

-- the CPU of the first part makes this step, and then has the second part
pub record IsOwnStep (state : State) (cpu : KnownCpuLists) (action : Action) (answer : Answer) (later : KnownCpuLists) : Type 0 where
  pub number : later.number ≡ cpu.number
  pub own : HasOwn (after state cpu.number action answer) later

-- the CPU whose part is at this index makes one such step; what lies behind the lock stays, except what its run has:
-- the watch saw the step, and the past may know more of others' steps
pub record ServesFast (table : KnownTable) (run : Run) (cpus : List KnownCpuLists) (index : ℕ)
    (before : VisitState) (action : Action) (answer : Answer) (after : VisitState) : Type 0 where
  pub is_part : slice_get cpus index ≡ Some before.cpu
  pub fast : IsFast action
  pub machine : after.machine ≡ with_run before.machine after.machine.run
  pub left : LeaveTheSame table before.machine after.machine
  pub leads : IsOwnStep (state_of (zone_of_boot table) run) before.cpu action answer after.cpu

-- if a run shows the whole and continues legally with that step, then the longer run shows the whole after the step
abbrev pub FastLinesFollow : Type 0
FastLinesFollow = (table : KnownTable) (run : Run) (cpus : List KnownCpuLists) (index : ℕ) (before : VisitState)
    (action : Action)
    (answer : Answer) (after : VisitState) → ShowsAll table run before.machine cpus
    → ServesFast table run cpus index before action answer after
    → IsLegalRun (zone_of_boot table) (run ++ cpu_makes before.cpu.number action answer ∷ [])
    → GoesOnTo table run before.machine (run ++ cpu_makes before.cpu.number action answer ∷ []) after.machine
    (slice_set cpus index after.cpu)
