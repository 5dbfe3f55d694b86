pub mod Allocations
pub mod Asks
pub mod Boots
pub mod Commands
pub mod Counted
pub mod Cpus
pub mod EndsWithPins
pub mod Ends
pub mod Files
pub mod Groups
pub mod Kept
pub mod Laws
pub mod Leaves
pub mod Left
pub mod Locked
pub mod Lost
pub mod Outcomes
pub mod Owners
pub mod Puts
pub mod Releases
pub mod Settings
pub mod Shown
pub mod Units
pub mod TextCommands
pub mod Usage
pub mod Visits
pub mod KillLaws
pub mod CommandLaws
pub mod DirtyAllocs
-- what other crates and the proofs import by one name, `Rattle.mem_system.specs`
pub use Rattle.mem_system.specs.Allocations.{Allocates, AllocatesAs, AllocatesWithin, FreshOf, outcome_of}
pub use Rattle.mem_system.specs.Asks.{MayAskFor}
pub use Rattle.mem_system.specs.Boots.{IsSizedAs, KnownBoot, KnownSystem, first_cpus, first_pasts}
pub use Rattle.mem_system.specs.Commands.{Executes, ListAndFreshStayWithin, ListStaysWithin, NamesWhatExists}
pub use Rattle.mem_system.specs.Counted.{VisitsFindCounts}
pub use Rattle.mem_system.specs.Cpus.{CpuInRun, KnowsItself, VisitsInRun, between_locks, cpu_in_run, parts_of, pasts_of, seat_of}
pub use Rattle.mem_system.specs.EndsWithPins.{EndsCpu, HasEnded, PutsAndEnds}
pub use Rattle.mem_system.specs.Ends.{AreLastWords, Closes, Empties, ForEachCpu, HasNoPage, IsAuditOf, IsClosed, IsEmptied, IsPinned, IsSettledUnpinned}
pub use Rattle.mem_system.specs.Ends.{KnownEmptiedBoot, LendsAndFillsNone, MachineAndCpu, MakesLastVisits, SettlesInVisit, VisitsUnderLock, drops_of}
pub use Rattle.mem_system.specs.Ends.{machine_and_cpu, pins_of_all, steps_of_visits}
pub use Rattle.mem_system.specs.Files.{ReclaimsAsked, Sets, SetsHigh, SetsLimit, Writes, read_outcome, with_high_of, with_low_of, with_min_of}
pub use Rattle.mem_system.specs.Files.{with_limit_of}
pub use Rattle.mem_system.specs.Groups.{MakesGroup, Removes}
pub use Rattle.mem_system.specs.Leaves.{IsLeaf, IsNoLeaf}
pub use Rattle.mem_system.specs.Left.{NothingIsLeft}
pub use Rattle.mem_system.specs.Locked.{AllShut, CountsItsRun, IsEmptyWithRoom, IsQuiet, IsSound, KnownLocked, SeenBehindLock, counts_in}
pub use Rattle.mem_system.specs.Outcomes.{HasItsGroups, IsShownText, shown_path, shown_text}
pub use Rattle.mem_system.specs.Puts.{EachPuts, MadePut, PutsPins, frames_put, unpin_steps}
pub use Rattle.mem_system.specs.Releases.{CutsList, ListsFrame, ReleasesFrame, ReturnsFrames}
pub use Rattle.mem_system.specs.Shown.{ReadsAfterSettling, SettlesCaller, UnitsAt}
pub use Rattle.mem_system.specs.Units.{NotesDirt}
pub use Rattle.mem_system.specs.Usage.{KeepsToLimit, LowersAbove, LowersByKills, LowersToHigh, LowersUsage, with_high_told}
pub use Rattle.mem_system.specs.Visits.{IsServed, IsVisited, LockedState, begun, locked_state, visit_state_of}
pub use Rattle.mem_system.specs.Visits.{visit_steps, with_run_at}
pub use Rattle.mem_system.specs.CommandLaws.{EndsLeaveEmptyWords, OnlyCommandsKill, OnlyReclaimFallsShort, ReleasesCutLists}
pub use Rattle.mem_system.specs.DirtyAllocs.{ServesDirtyAlloc, ServesDirtyAt}
pub use Rattle.mem_system.specs.Settings.{RefusesValue, WritesSetting}
pub use Rattle.mem_system.specs.TextCommands.{HasNoFile, HasNoGroupAt, IsFileOf, IsOfZone, NamesFrameBelow, ServesText, StandsFor, StandsForNone}
