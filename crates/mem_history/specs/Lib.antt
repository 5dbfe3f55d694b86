pub mod Whole
pub mod Kept
pub mod Leading
-- what other crates and the proofs import by one name, `Rattle.mem_history.specs`
pub use Rattle.mem_history.specs.Whole.{GoesOnTo, HasTakenLock, IsOwnStep, IsPartAt, LeaveTheSame, ShowsAll, under_lock}
pub use Rattle.mem_history.specs.Kept.{ABootIsShown, CurrentIsKept, TheWholeIsPromised, fresh_frames_by, keeper_by, list_by, shown_of, stock_by}
pub use Rattle.mem_history.specs.Leading.{FastCallsLead, IsPart, put_answer}
