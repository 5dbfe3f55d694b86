pub mod Crossing
pub mod Moves
pub mod Numbers
pub mod Sends
pub mod Walks
mod Steps
