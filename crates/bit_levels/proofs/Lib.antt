pub mod Summaries
pub mod Words
