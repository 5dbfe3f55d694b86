pub mod Ends
pub mod Reading
pub mod Taking
pub mod Texts
pub mod Verdicts
pub mod Reasons
pub mod ReasonTexts
-- what other crates and the proofs import by one name, `Rattle.log_check.specs`
pub use Rattle.log_check.specs.Ends.{IsEnd, free_count}
pub use Rattle.log_check.specs.Reading.{EndsBefore, NamesLineAfter, ReadsAsFar, ReadsUpTo, StopsAfter}
pub use Rattle.log_check.specs.Taking.{AreLeftOut, AreWholeLines, Checked, Concludes, EndsIllegally, HasChecked, HasRead, HasRoomForLine}
pub use Rattle.log_check.specs.Taking.{HasTakenLines, LeadsTo, ReadsOrJudges, TakesAfter, illegal_in}
pub use Rattle.log_check.specs.Texts.{due_text, step_place_text, verdict_text}
pub use Rattle.log_check.specs.Verdicts.{BeginsWith, BreaksRules, IsBadLine, IsIllegalAt, IsLegalLog, IsLogVerdict, IsMisplaced, IsPromisedLog, IsWhy}
pub use Rattle.log_check.specs.Verdicts.{LeavesOut, NamesLeftOut, Reached, at_start, begins_as_gzip, fault_of, is_marked, is_returned, is_wide}
pub use Rattle.log_check.specs.Verdicts.{line_on, says_legal, step_on}
pub use Rattle.log_check.specs.Reasons.{IsReason}
pub use Rattle.log_check.specs.ReasonTexts.{reason_text}
