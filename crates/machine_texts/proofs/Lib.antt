pub mod Codes
pub mod Keepers
pub mod Spans
pub mod UnitLines
pub mod Owners
mod Adding
mod Counting
mod KeptPages
