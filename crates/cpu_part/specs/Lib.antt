pub mod Cpus
pub mod Calls
pub mod Known
pub mod Told
-- what other crates and the proofs import by one name, `Rattle.cpu_part.specs`
pub use Rattle.cpu_part.specs.Cpus.{IsIdle, IsUnlisted, KnownCpuLists, first_cpu}
pub use Rattle.cpu_part.specs.Calls.{DropAnswers, FastAnswers, IfRaced, PassesBackUnit, PassesFresh, PassesFront, PinAnswers, StaysSo, TakesFront}
pub use Rattle.cpu_part.specs.Calls.{UnpinAnswers}
pub use Rattle.cpu_part.specs.Known.{HasOwn, KnowsItsPart}
pub use Rattle.cpu_part.specs.Told.{steps_of_drop, steps_of_fast, steps_of_get, steps_of_put}
