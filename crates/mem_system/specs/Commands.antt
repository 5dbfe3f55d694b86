-- What each command does inside a visit, by which steps, and with which outcome.
use Rattle.std.specs.Prelude.{◌≡◌, ◌≢◌, ℕ, true, false, IsTrue, ◌+◌, ◌<◌, ◌≤◌, List, [], length}
use Rattle.group_tree.specs.declared.group.Group.{Group}
use Rattle.group_tree.specs.Groups.{has_group}
use Rattle.boot_words.specs.Tables.{KnownTable}
use Rattle.cpu_part.specs.Cpus.{KnownCpuLists}
use Rattle.zone_blocks.specs.declared.config.Config.{Config}
use Rattle.zone_blocks.specs.Config.{IsValidConfig}
use Rattle.mem_machine.specs.{VisitState, Visits, KnownMachine}
-- a call, described by the state before it, its steps and the state after it
pub use Rattle.mem_machine.specs.Transitions.{Transition, transition, of_machine, OfMachine, OfMachineAlone, BySteps, MachineStays, Stays}
pub use Rattle.mem_machine.specs.Settling.{IsSettled}
pub use Rattle.mem_reclaim.specs.Moves.{CountsMisses}
use Rattle.mem_system.specs.declared.command.LockedCommand.{LockedCommand}
use Rattle.mem_system.specs.declared.command.LockedCommand.TheVariants.{Mkdir, Rmdir, Write, Read, Settle, Owner, Touch, Dirty, Clean, Release, Alloc}
use Rattle.mem_system.specs.declared.outcome.Outcome.{Outcome}
use Rattle.mem_system.specs.declared.outcome.Outcome.TheVariants.{Done}
use Rattle.mem_system.specs.Boots.{IsSizedAs}
use Rattle.mem_system.specs.Groups.{MakesGroup, Removes}
use Rattle.mem_system.specs.Files.{Writes, read_outcome}
use Rattle.mem_system.specs.Owners.{ReportsPlace}
use Rattle.mem_system.specs.Units.{MakesNoStep, TouchesFrame, NotesDirt}
use Rattle.mem_system.specs.Releases.{ReleasesFrame}
use Rattle.mem_system.specs.Allocations.{Allocates, FreshOf}

-- What a command may name: a frame of the zone, and a group that exists. A file is named of a group below the root.
abbrev pub NamesWhatExists : KnownTable → List Group → LockedCommand → Type 0
NamesWhatExists table groups (Rmdir group) = IsTrue (has_group groups group)
NamesWhatExists table groups (Write group setting) = IsTrue (has_group groups group)
NamesWhatExists table groups (Read group file) = IsTrue (has_group groups group) × (group ≢ 0)
NamesWhatExists table groups (Owner frame) = frame < table.frames
NamesWhatExists table groups (Touch frame) = frame < table.frames
NamesWhatExists table groups (Dirty frame) = frame < table.frames
NamesWhatExists table groups (Clean frame) = frame < table.frames
NamesWhatExists table groups (Release frame) = frame < table.frames
NamesWhatExists table groups (Alloc group order) = IsTrue (has_group groups group)
NamesWhatExists table groups other = Unit {0}

-- What a command finds inside its visit. The CPU is visited and settled, the sizes are in their ranges, and the tables
-- have these sizes.
pub record MayExecute (table : KnownTable) (sizes : Config) (machine : KnownMachine) (cpu : KnownCpuLists) : Type 0 where
  pub visit : Visits table machine cpu
  pub settled : IsSettled cpu
  pub valid : IsValidConfig sizes
  pub sized : IsSizedAs sizes table

-- what the command does inside the visit, and its outcome
abbrev pub Executes : Config → LockedCommand → Outcome → Transition VisitState → Type 0
Executes sizes (Mkdir path) outcome call = OfMachineAlone (MakesGroup path.now outcome) call
Executes sizes (Rmdir group) outcome call = OfMachineAlone (Removes group outcome) call
Executes sizes (Write group setting) outcome call = OfMachineAlone (Writes group setting outcome) call
Executes sizes (Read group file) outcome call = (outcome ≡ read_outcome call.before.machine group file) × Stays call
Executes sizes Settle outcome call = (outcome ≡ Done) × Stays call
Executes sizes (Owner frame) outcome call = ReportsPlace call.before.machine frame outcome × Stays call
Executes sizes (Touch frame) outcome call = OfMachineAlone (MakesNoStep (TouchesFrame frame outcome)) call
Executes sizes (Dirty frame) outcome call = OfMachineAlone (MakesNoStep (NotesDirt frame true outcome)) call
Executes sizes (Clean frame) outcome call = OfMachineAlone (MakesNoStep (NotesDirt frame false outcome)) call
Executes sizes (Release frame) outcome call = ReleasesFrame sizes frame outcome call
Executes sizes (Alloc group order) outcome call = Allocates sizes group order outcome call

-- the fresh frames after a command: the frame that an Alloc of order 0 returned, and none after any other command
abbrev pub FreshAfter : LockedCommand → Outcome → (fresh : List ℕ) → Type 0
FreshAfter (Alloc group order) outcome fresh = FreshOf outcome order fresh
FreshAfter other outcome fresh = fresh ≡ []

-- what a command leaves to settle: no back frame, and no fresh frame except the one that an Alloc returned
abbrev pub IsSettledAfter : LockedCommand → Outcome → KnownCpuLists → Type 0
IsSettledAfter cmd outcome cpu = FreshAfter cmd outcome cpu.fresh × (cpu.back ≡ [])

-- if the CPU's list had at most `high` frames, it still has at most `high`
abbrev pub ListStaysWithin : Config → (before after : KnownCpuLists) → Type 0
ListStaysWithin sizes before after = length before.list ≤ sizes.high → length after.list ≤ sizes.high

-- if the CPU's list had at most `high` frames, its list and its fresh frames together have at most `high`
abbrev pub ListAndFreshStayWithin : Config → (before after : KnownCpuLists) → Type 0
ListAndFreshStayWithin sizes before after =
    length before.list ≤ sizes.high → length after.list + length after.fresh ≤ sizes.high
