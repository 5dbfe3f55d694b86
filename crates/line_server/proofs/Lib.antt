pub mod Answered
pub mod Commented
pub mod Histories
pub mod Logged
pub mod Sessions
pub mod Bytes
pub mod Written
