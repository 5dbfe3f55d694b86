pub mod Answers
pub mod Commands
pub mod History
pub mod Lines
pub mod Numbers
pub mod Ranges
pub mod Reasons
pub mod Terms
pub mod ValueAnswers
pub mod Visits
pub mod Threads
pub mod CpuLines
pub mod Runs
-- what other crates and the proofs import by one name, `Rattle.script_replay.specs`
pub use Rattle.script_replay.specs.Answers.{AddsText, AnswersUnlocked, AnswersCommand, AnswersLocked, ServesUnlocked, Gains, IsAnswerText}
pub use Rattle.script_replay.specs.Answers.{IsServedUnderLock, IsSettledText, IsTriedInVain, MakesUnlocked, NeedsLock, OnlySaw, OnlyWatched}
pub use Rattle.script_replay.specs.Answers.{ServesAnswer, ServesCommand, ServesUnderLock, TakesNoLock, WritesCommand, explanation_if, is_noted}
pub use Rattle.script_replay.specs.Answers.{changes_in, locked_with_detail_notes, locked_with_watch, steps_unlocked, steps_tried}
pub use Rattle.script_replay.specs.Commands.{HasValueAnswer, OnlySettles, frame_path, head_named, is_tried, locked_command_of, path_removed}
pub use Rattle.script_replay.specs.History.{HasLegalHistory, KeepsHistory, KeepsPromise, LegalLinesAreShown, LegalLinesKeepIt, LinesSoFar, ReplaysLegally}
pub use Rattle.script_replay.specs.History.{StopsFor, lines_so_far, with_line}
pub use Rattle.script_replay.specs.Lines.{AtPart, HasRun, InOrder, RunGoesOn, ServesAll, ServesLine, StopsAt, SystemState, WritesLine}
pub use Rattle.script_replay.specs.Lines.{number_in_script, steps_of_served, system_state}
pub use Rattle.script_replay.specs.Numbers.{SaysNumbered, numbered_text, text_with_number}
pub use Rattle.script_replay.specs.Ranges.{ArgumentsInRange, CommandInRange, CpuCommandInRange, LineInRange}
pub use Rattle.script_replay.specs.Reasons.{borrower_of, fault_in, reasoned_text, refusal_reason_text}
pub use Rattle.script_replay.specs.Terms.{known_system, form_of, form_terms, numbered_terms, terms}
pub use Rattle.script_replay.specs.ValueAnswers.{NamesItsGroups, SaysCommand}
pub use Rattle.script_replay.specs.Visits.{AnswersWithoutVisitBySteps, AnswersWithoutVisit, GrewByChanges, NeedsVisit, ServesByVisits, TriesInVain}
pub use Rattle.script_replay.specs.Visits.{VisitsAll, VisitsLine, WritesByVisit}
pub use Rattle.script_replay.specs.Threads.{AreAllAnswers, heading, workers_from}
pub use Rattle.script_replay.specs.CpuLines.{KnownWorker, LineCommandInRange, ServesOwn, ServesOwnBySteps, ServesOwnLine, TellsCommand, ToldCpu}
pub use Rattle.script_replay.specs.CpuLines.{told_cpu, worker}
pub use Rattle.script_replay.specs.Runs.{lines_before_go}
