pub mod Tables
pub mod Runs
pub mod Words
pub mod Steps
pub mod Hidden
pub mod Sight
pub mod Own
pub mod Rule
pub mod Seats
pub mod Held
pub mod Locks
pub mod Pasts
pub mod Composed
pub mod Growth
pub mod Calls
pub mod Cpus
pub mod Looking
pub mod Opening
pub mod Closed
pub mod Laws
-- what other crates and the proofs import by one name, `Rattle.boot_words.specs`
pub use Rattle.boot_words.specs.Tables.{KnownTable}
pub use Rattle.boot_words.specs.Runs.{BooksNothingOf, GrewBy, HasNoStepOf, IsFast, IsLegalLater, OthersFollow, books, no_past}
pub use Rattle.boot_words.specs.Words.{AreFrameWords, AreStockWords, IsRunOf, frame_word, stock_in, stock_said, with_frame_word, with_report_word}
pub use Rattle.boot_words.specs.Words.{with_stock_word, word_in_phase}
pub use Rattle.boot_words.specs.Steps.{ChangesWords, IsPlain, frame_word_at, report_word_at, stock_word_at}
pub use Rattle.boot_words.specs.Hidden.{hide, hide_phase, hide_stage, show_own, show_phase, zone_references}
pub use Rattle.boot_words.specs.Sight.{AwayStays, FastIsHidden, FastLegalityLasts, HasSameLists, HasSameOrDrained, HolderGoesOn, HolderSeesBoth}
pub use Rattle.boot_words.specs.Sight.{IsSettledAndDrained, ListsAreOwn, StocksAreOwn}
pub use Rattle.boot_words.specs.Own.{OwnPartFollows}
pub use Rattle.boot_words.specs.Rule.{AllOf, AllPasts, AreFast, BeginsRun, HasLock, IsPastOf, LeavesLock, RunRule, frame_base, of_number, run_rule}
pub use Rattle.boot_words.specs.Rule.{sum_over, total_over, word_count, words_in}
pub use Rattle.boot_words.specs.Seats.{MayChange, all_pasts, cpu_of_word, cpus_pasts, first_alone, frame_of_word, rest_of, zone_of_boot}
pub use Rattle.boot_words.specs.Held.{HoldsLock, freeze_answer, local_seen, put_answer_at}
pub use Rattle.boot_words.specs.Locks.{LeavesFree, ZoneRests}
pub use Rattle.boot_words.specs.Pasts.{IsCpuPast, IsHeld, IsHolder, IsZonePast, KnownPasts, MakesStep, MayDo, MayMake, Meets, Unlocks, cpu_past}
pub use Rattle.boot_words.specs.Pasts.{first_past, freeze_said, local_by_pasts, own_past, put_said, second_past}
pub use Rattle.boot_words.specs.Composed.{AreLegal, GrewInTurn, GrewUnderLock, MakesInTurn, lend_run, take_back_run}
pub use Rattle.boot_words.specs.Growth.{ABootHasNoSteps, AreChangesOf, GainsGoOn, GainsSteps, GrewByAll, HasInOrder, IsRunSoFar, IsRunWithout}
pub use Rattle.boot_words.specs.Growth.{SeesMore, TheRunSoFarIsLegal, changes_nothing, changes_of}
pub use Rattle.boot_words.specs.Calls.{CpuMakes, GetsReference, RacesAt}
pub use Rattle.boot_words.specs.Cpus.{ConsumesPage, Exchanges, IsAwayCpu, KnownCpuSeat, SawLast, state_left}
pub use Rattle.boot_words.specs.Looking.{LoadsReferences}
pub use Rattle.boot_words.specs.Opening.{cpu_at_first, cpus_at_first, seat_at_first}
pub use Rattle.boot_words.specs.Closed.{HasCpuPast, IsClosedRun, IsEndOfRun, pasts_of_cpus}
pub use Rattle.boot_words.specs.Laws.{IsFrameCounted, IsStockBooked, IsVisitorsMark, KnowsItsOwn, NeverZero, NoGroupNothingFresh, SeatsKnowTheirOwn}
pub use Rattle.boot_words.specs.Laws.{WordsBookPages, WordsCountReferences, in_hand_of, stage_in_hand_of}
