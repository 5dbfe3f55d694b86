pub mod Answers
pub mod Causes
pub mod Checks
pub mod Driving
pub mod Ending
pub mod Fault
pub mod Lints
pub mod Logs
pub mod Refusals
pub mod Sessions
pub mod Starting
pub mod Stopping
pub mod Survey
pub mod Threads
pub mod Versions
-- what other crates and the proofs import by one name, `Rattle.load_run.specs`
pub use Rattle.load_run.specs.Answers.{AreAnswers, AreThreadAnswers, IsAnswered, IsOnScript, IsQuietSystem, IsWritten, bytes_read, checked_text}
pub use Rattle.load_run.specs.Causes.{FailsAtWork, HasCause, IsMisused, LeavesAnswers, Written, written}
pub use Rattle.load_run.specs.Checks.{FailsToCheck, HasStatus, IsLogVerdictOf, LeavesLine, LeavesVerdict, ReportsBadLine, ReportsLegal}
pub use Rattle.load_run.specs.Checks.{ReportsNotLegal}
pub use Rattle.load_run.specs.Driving.{Drives, DrivesScript, DrivesTask, IsAnsweredStatus}
pub use Rattle.load_run.specs.Ending.{EndsChecked, EndsHeld, IsWholeRun, boot_end_text}
pub use Rattle.load_run.specs.Fault.{IsBootFault, IsFailedTask, IsReadFault, IsScriptFault, IsWordsFault, fault_status_of, fault_text}
pub use Rattle.load_run.specs.Lints.{FailsToLint, IsEarlyFault, IsLintText, LeavesFindings, ReportsFindings, ReportsNothing, lint_status}
pub use Rattle.load_run.specs.Logs.{LogsEnd, log_head_text}
pub use Rattle.load_run.specs.Refusals.{answered_status, has_refusal}
pub use Rattle.load_run.specs.Sessions.{BeginsHead, DrivesSession, EndsInForm, EndsSession, IsOfValid, IsSameFault, IsWorkFault, LeavesSession}
pub use Rattle.load_run.specs.Sessions.{LeavesWithHead, ServesInput, ServesWithHead, SessionAsked, StopsSession, WritesHead, steps_of_end}
pub use Rattle.load_run.specs.Sessions.{words_of_end}
pub use Rattle.load_run.specs.Starting.{IsNewBootState}
pub use Rattle.load_run.specs.Stopping.{IsCheckFault, IsNewWatchedState, OfCheckedForm, StopsAtIllegalEnd, StopsAtIllegalLine, fault_of_stop}
pub use Rattle.load_run.specs.Survey.{AreNumbered, ChangesFollow, HasPast, HasSeen, SeesAllPasts}
pub use Rattle.load_run.specs.Versions.{WritesVersion, version_text}
