pub mod Phases
pub mod State
pub mod Usage
pub mod Legal
pub mod After
pub mod Views
pub mod Invariant
pub mod Laws
pub mod Counts
pub mod Places
pub mod Returns
pub mod Grants
pub mod Examples
pub mod Events
pub mod Peaks
pub mod Reaches
pub mod Keepers
pub mod Seen
pub mod Folds
pub mod Units
pub mod Kept
pub mod FreeAreas
pub mod Current
pub mod Live
pub mod Lent
pub mod Booked
pub mod Answers
pub mod Charges
pub mod References
pub mod Promise
pub mod Breaches
-- what other crates and the proofs import by one name, `Rattle.step_rules.specs`
pub use Rattle.step_rules.specs.Phases.{Kind, at_stage, collected, has_as, has_stage, is_free, is_head, is_head_in_hand, is_live_phase, is_out}
pub use Rattle.step_rules.specs.Phases.{is_passing, is_returnable, is_returning, is_stage_in_hand, is_stage_passing, is_stage_returnable, keeper_of}
pub use Rattle.step_rules.specs.Phases.{passed_back, passes_back, passes_out, stage_after_last, stage_collected, stage_passed_back, stage_passes_back}
pub use Rattle.step_rules.specs.Phases.{unit_of}
pub use Rattle.step_rules.specs.State.{HasRoom, Part, PartStock, Zone, all_to, at_boot, frames_of, free_in, front_of, is_cpu, is_frame, is_held_by, is_unheld}
pub use Rattle.step_rules.specs.State.{most_fresh, most_pins, most_references}
pub use Rattle.step_rules.specs.State.{live_references, may_zone_act, no_part, one_if, pins_of, sum_to, times, visits, with_at, with_last, without}
pub use Rattle.step_rules.specs.Usage.{frames_kept, pages_pending, pages_prepaid, stock_in_subtree, usage_of}
pub use Rattle.step_rules.specs.Legal.{Allows, IsAnswer, IsCounted, IsMade, get_answer, is_legal, is_of_group, is_passable, is_removable}
pub use Rattle.step_rules.specs.Legal.{no_frame_passes, no_page_pends, nothing_passes, rests, takes_fill}
pub use Rattle.step_rules.specs.After.{IsLegalRun, Run, absorbed, after, after_last, consumed, credited, drained, filled, is_within, paid, part_after}
pub use Rattle.step_rules.specs.After.{cpu_makes, zone_makes}
pub use Rattle.step_rules.specs.After.{placed_phase, state_of, unit_size, with_back, with_block, with_listed, with_more, with_part, with_pending}
pub use Rattle.step_rules.specs.After.{with_phase, with_references, with_report, with_unlisted, without_frame, without_unit}
pub use Rattle.step_rules.specs.Views.{holds_lock, other_part_seen, parts_seen_by, phase_seen_by, references_seen_by, seen_by, stage_seen_by}
pub use Rattle.step_rules.specs.Invariant.{FrameFits, Homes, IsBooked, IsHomed, IsPaid, KeepsInvariant, PhasePaid, StateInvariant, groups_in}
pub use Rattle.step_rules.specs.Invariant.{some_there, told_pages}
pub use Rattle.step_rules.specs.Laws.{IsLocalStep, OtherStepIsHidden, OwnStepIsLegal, ShowsLocal, is_of_lock, pushed}
pub use Rattle.step_rules.specs.Counts.{BooksAreCounted, ReferencesAreCounted, StocksAreCounted, book_gained, book_lost, count_at, counted}
pub use Rattle.step_rules.specs.Counts.{references_gained, references_lost, stock_gained, stock_lost}
pub use Rattle.step_rules.specs.Places.{is_same_frame_place, place_in, places_of}
pub use Rattle.step_rules.specs.Returns.{EveryFrameReturnsOnce, IsAllPlaced, NothingPendsWhileTheLockIsFree, ReturnsOnce, awaits_return}
pub use Rattle.step_rules.specs.Returns.{awaits_return_after, counted_with_run, counted_with_state, is_killed_group, is_killed_return}
pub use Rattle.step_rules.specs.Returns.{is_killed_return_phase, is_killed_return_stage, phase_awaits_return, uses_closed, uses_ended}
pub use Rattle.step_rules.specs.Grants.{NoGrantPassesALimit, PendingIsCounted, pending_in, pending_out}
pub use Rattle.step_rules.specs.Examples.{at_the_borders, credited_twice, group_comes_and_goes, group_dies_whole, group_killed_whole, in_line}
pub use Rattle.step_rules.specs.Examples.{killed_group_ends, life_of_a_frame, lock_taken, noted_events, returned_twice, returned_when_killed}
pub use Rattle.step_rules.specs.Examples.{small_zone, stock_without_a_page, unlocked_too_soon, vain_visit, with_back_frames, with_fresh_frames}
pub use Rattle.step_rules.specs.Examples.{with_pins}
pub use Rattle.step_rules.specs.Events.{EventsAreCounted, count_after, event_key, event_of, events_in, events_local_in, group_noted, is_noted_at}
pub use Rattle.step_rules.specs.Events.{is_noted_in_subtree, makes_group, noted_at, passed_since_made, with_passed}
pub use Rattle.step_rules.specs.Peaks.{IsPeak, IsThereSince, OnlyGrantsRaiseUsage, PeaksAreKept, UsageMoves, peak_follows}
pub use Rattle.step_rules.specs.Reaches.{IsInterleaved, IsLocalRun, LocalRunsCompose, LocalRunsInterleave, MayFollow, is_own, own_steps}
pub use Rattle.step_rules.specs.Keepers.{AllKeepersAreThere, StockIsKept}
pub use Rattle.step_rules.specs.Seen.{AllIsSeen, AllLegalityIsSeen, LockIsPassedOn, SeesAll}
pub use Rattle.step_rules.specs.Folds.{AllGroupsFollowRun, AllPartsFollowRun, InHand, LastFill, TheLockFollowsRun, fill_after, flag_after, flag_given}
pub use Rattle.step_rules.specs.Folds.{hand_after, hold_of, holder_after, killed_after, last_fill, limit_after, limit_given, open_after, was_killed}
pub use Rattle.step_rules.specs.Units.{AllUnitsFollowRun, fresh_after, fresh_group, no_units, unit_after, units_after, units_after_run}
pub use Rattle.step_rules.specs.Kept.{AllPublishedIsKept, published_after}
pub use Rattle.step_rules.specs.FreeAreas.{AllAreasFollowRun, free_frames}
pub use Rattle.step_rules.specs.Current.{AllCurrentFollowsRun}
pub use Rattle.step_rules.specs.Live.{AllLiveAreReferenced, LiveIsReferenced}
pub use Rattle.step_rules.specs.Lent.{BeginningsAreLegal, FramesAreLentToCpus, FramesPassInVisits, lent_to}
pub use Rattle.step_rules.specs.Booked.{AllPartsAreBooked, absorbed_in, reported_in, unreported_in}
pub use Rattle.step_rules.specs.Answers.{AnswersAreDetermined, EveryStepIsAnswered, IsPlacing, OnlySeatsAct}
pub use Rattle.step_rules.specs.Charges.{charged_in, charged_in_subtree, charged_out, groups_after, groups_of, unit_pages}
pub use Rattle.step_rules.specs.References.{CountsReferences, references_had, references_on}
pub use Rattle.step_rules.specs.Promise.{EachStepIsPromised, Has, HasNoReference, HasOnce, IsInOnePlace, IsInUnit, IsPrepaid, IsShown, IsUnused}
pub use Rattle.step_rules.specs.Promise.{KeepsLimits, ReturnsNoFrameTwice, Shown, ThePromiseIsKept, kept_in_subtree, prepaid_in_subtree}
pub use Rattle.step_rules.specs.Breaches.{BreaksPromise, IsShownWrongly, IsWrongAfter, MiscountsReferences, at_list, consumed_in_a_unit}
pub use Rattle.step_rules.specs.Breaches.{consumed_nothing, credited_again, credited_in_use, frozen_after_the_last, given_after_the_last}
pub use Rattle.step_rules.specs.Breaches.{given_in_no_unit, granted_and_lost, granted_when_killed, group_too_many, kept_in_no_unit, kept_run}
pub use Rattle.step_rules.specs.Breaches.{limit_never_set, listed_by_nobody, listed_twice, lost_in_number, never_referred, no_group_seen}
pub use Rattle.step_rules.specs.Breaches.{parted_areas, past_a_limit, placed_ended, placed_for_nobody, placed_in_use, placed_on_a_tail}
pub use Rattle.step_rules.specs.Breaches.{placed_smaller, prepaid_by_nobody, prepaid_for_no_group, prepaid_for_nobody, prepaid_left_out}
pub use Rattle.step_rules.specs.Breaches.{put_after_the_last, referred_by_one, referred_fully, referred_twice, returned_again, returned_in_no_unit}
pub use Rattle.step_rules.specs.Breaches.{returned_in_use, returned_unused, seen_beyond, seen_nowhere, seen_twice, shown_free, shown_rightly}
pub use Rattle.step_rules.specs.Breaches.{unfrozen_in_no_unit, unfrozen_in_use}
