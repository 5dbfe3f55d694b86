pub mod FrameStates
pub mod Counts
pub mod Machines
pub mod Kept
pub mod Following
pub mod Counting
pub mod Local
pub mod Transitions
pub mod Start
pub mod Steps
pub mod Lending
pub mod Booked
pub mod Stocks
pub mod Marks
pub mod Ageing
pub mod Freeing
pub mod Lists
pub mod Clean
pub mod Blocks
pub mod Interleaving
pub mod Agreeing
pub mod Releasing
pub mod Evicting
pub mod Settling
pub mod Paying
pub mod Places
pub mod Showing
pub mod Noted
pub mod Resting
-- what other crates and the proofs import by one name, `Rattle.mem_machine.specs`
pub use Rattle.mem_machine.specs.FrameStates.{AreUnits, IsTailOf, IsUnitAt, frame_state_at, frame_state_group, free_of, head_group_of, headed_unit}
pub use Rattle.mem_machine.specs.FrameStates.{is_free_state, one_if_is, phase_hidden, place_of}
pub use Rattle.mem_machine.specs.Counts.{BalancesCounts, no_counts, with_freeze, with_killed_fresh, with_last_put, with_miss}
pub use Rattle.mem_machine.specs.Machines.{AddsGroup, FitsFrameState, HeadsKeptUnit, IsConsistent, IsCpuOf, IsFirst, IsShownBy, KnownMachine}
pub use Rattle.mem_machine.specs.Machines.{LacksRoom, OneByOne, OthersStay, UnlistedStay, VisitState, VisitStateStays, active_in, booked, entries_in}
pub use Rattle.mem_machine.specs.Machines.{frames_charged, group_lists, home_of, inactive_in, is_killed, left_by, lists_at, lists_of, no_lists}
pub use Rattle.mem_machine.specs.Clean.{AreCleanCounts, clean_dirtied, clean_joined, clean_left, clean_owner, clean_pages, clean_pages_in, pages_headed, pages_if_is}
pub use Rattle.mem_machine.specs.Machines.{pages_booked, part_at, stock_group, visit_state, with_note, with_past, with_run, with_detail_notes}
pub use Rattle.mem_machine.specs.Machines.{with_watch, without_notes}
pub use Rattle.mem_machine.specs.Kept.{IsSoundMachine, machine_of}
pub use Rattle.mem_machine.specs.Following.{ExistsAfter, FollowsSteps, Moves, moved_along, moves_count, moves_peak}
pub use Rattle.mem_machine.specs.Counting.{counts_after, counts_along, is_back_passing, one_more_freeze, one_more_last_put, one_more_return}
pub use Rattle.mem_machine.specs.Local.{Holds, IsOpen, IsShut, KeepsVisit, Makes, StaysVisited, VisitDoes, VisitMakes, Visits, group_of_fresh}
pub use Rattle.mem_machine.specs.Local.{local_of, lock_holder, phase_of}
pub use Rattle.mem_machine.specs.Transitions.{BySteps, Finds, InTurn, MachineStays, OfMachineAlone, Stays, Transition, transition}
pub use Rattle.mem_machine.specs.Start.{AreEmpty}
pub use Rattle.mem_machine.specs.Steps.{Drain, drain_list_steps, drain_steps, drain_stocks_steps, fill_steps, kill_steps, lend_steps, make_steps}
pub use Rattle.mem_machine.specs.Steps.{note_group_kill_steps, note_max_steps, note_oom_steps, note_steps, open_steps, over_steps, pages_drained}
pub use Rattle.mem_machine.specs.Steps.{refill_steps, remove_steps, set_max_steps, set_oom_group_steps, shut_steps, take_front_steps, ungrant_steps}
pub use Rattle.mem_machine.specs.Steps.{unlist_steps}
pub use Rattle.mem_machine.specs.Lending.{HasListRoom, LendsByStep, LendsFrame, LendsMany, LendsNone, LendsOne, Refills, UnlistsByStep, UnlistsMany}
pub use Rattle.mem_machine.specs.Lending.{UnlistsNone, UnlistsOne}
pub use Rattle.mem_machine.specs.Booked.{AreBooked, AreOwners}
pub use Rattle.mem_machine.specs.Stocks.{AreDrained, AreDrainedIf, AreOwnDrained, Drains, DrainsAllBelow, DrainsAllIf}
pub use Rattle.mem_machine.specs.Stocks.{DrainsBySteps, DrainsGroup, DrainsIf, DrainsNoted, DrainsSubtree, Fills, FitsStock, HasDrained, IsDrained}
pub use Rattle.mem_machine.specs.Stocks.{RefusesGrant, StockTest, of_group, of_subtree, uncharged}
pub use Rattle.mem_machine.specs.Marks.{Dirties, TouchesUnit}
pub use Rattle.mem_machine.specs.Ageing.{AgesGroup, RenewsUnit}
pub use Rattle.mem_machine.specs.Freeing.{FreesFrames}
pub use Rattle.mem_machine.specs.Lists.{JoinsList, LeavesList}
pub use Rattle.mem_machine.specs.Blocks.{PlacesUnit, RefusesBlock, TakesBlock, TakesNoBlock, block_steps, placed_frame_state, taken_steps}
pub use Rattle.mem_machine.specs.Blocks.{unplaced_steps}
pub use Rattle.mem_machine.specs.Interleaving.{CallsInterleave, IsInterleaving, Shows}
pub use Rattle.mem_machine.specs.Agreeing.{AgreesWithRun, LedgersAgree}
pub use Rattle.mem_machine.specs.Releasing.{LeavesReferences, Releases, ReturnsUnit, release_steps}
pub use Rattle.mem_machine.specs.Evicting.{Evicts, EvictsUnit, MissesUnit, evict_steps}
pub use Rattle.mem_machine.specs.Settling.{DropsFresh, FindsNoneBack, FindsNoneFresh, HandsOver, IsSettled, KeepsFresh, LeavesOthers, ReturnsAllBack}
pub use Rattle.mem_machine.specs.Settling.{ReturnsBack, Settles, SettlesAllFresh, SettlesFresh, all_fresh_steps, collect_steps, drop_steps}
pub use Rattle.mem_machine.specs.Settling.{fresh_steps, is_fresh_killed, keep_steps, return_all_steps, return_steps, settle_steps}
pub use Rattle.mem_machine.specs.Paying.{HasRoomFor, HoldsPage, IsOfSize, MayCharge, PaysForFront}
pub use Rattle.mem_machine.specs.Places.{NoneLentTo, frames_free, frames_in_groups}
pub use Rattle.mem_machine.specs.Showing.{ListedUnit, listed, stock_left, stock_now, units_in}
pub use Rattle.mem_machine.specs.Noted.{AreLocal, KnownRun, MayTake, MayTakeAll, Records, PastsGrowBy, after_made}
pub use Rattle.mem_machine.specs.Resting.{Rests}
