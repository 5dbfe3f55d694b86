pub mod Bytes
pub mod Exact
pub mod Parts
pub mod Steps
pub mod Pieces
