pub mod Buffers
pub mod Cells
pub mod Groups
pub mod Handles
pub mod Kinds
pub mod Owned
pub mod Reports
pub mod Sizes
pub mod Statuses
pub mod Version
-- what other crates and the proofs import by one name, `Rattle.host_memory.specs`
pub use Rattle.host_memory.specs.Buffers.{ExceedsBuffer, FillsBuffer, PutsText}
pub use Rattle.host_memory.specs.Groups.{IsMissingIn}
pub use Rattle.host_memory.specs.Handles.{Led, OnHandle, OnKnown, OnPointer, led, led_of}
pub use Rattle.host_memory.specs.Kinds.{get_result, no_result, outcome_result, outcome_status, put_result, result_with}
pub use Rattle.host_memory.specs.Owned.{brand, frames_coded, pointer_owns}
pub use Rattle.host_memory.specs.Reports.{end_of}
pub use Rattle.host_memory.specs.Sizes.{AreSizes, config_of, has_flags}
pub use Rattle.host_memory.specs.Statuses.{bad_config, bad_cpu, bad_frame, bad_group, bad_version, done, is_live, no_memory, not_live, over_limit, small_buffer}
pub use Rattle.host_memory.specs.Version.{header_version}
