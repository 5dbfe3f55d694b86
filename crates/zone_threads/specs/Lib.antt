pub mod Calling
pub mod Homes
pub mod Shown
-- what other crates and the proofs import by one name, `Rattle.zone_threads.specs`
pub use Rattle.zone_threads.specs.Calling.{AnswersRead, Calls, MissesDrop, ReadsBehind, ShowsText, Then}
pub use Rattle.zone_threads.specs.Homes.{HasCpu, HasNoCpu, IfNotEntered, IsTaken, KeepsParked, KnownBehind, KnownHome, OnCpu, SeesBehind, ServesBehind, TakesCpu, UnderLock}
pub use Rattle.zone_threads.specs.Shown.{ReadsText}
