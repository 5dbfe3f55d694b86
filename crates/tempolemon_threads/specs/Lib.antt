pub mod Behind
pub mod Calls
pub mod Handling
pub mod Kinds
pub mod Statuses
pub mod Handles
pub mod Owned
pub mod Serving
-- what other crates and the proofs import by one name, `Rattle.tempolemon_threads.specs`
pub use Rattle.tempolemon_threads.specs.Behind.{zone_behind}
pub use Rattle.tempolemon_threads.specs.Handling.{EndsAs}
pub use Rattle.tempolemon_threads.specs.Handles.{IsCpuHandle}
