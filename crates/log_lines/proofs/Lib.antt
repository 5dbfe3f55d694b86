pub mod BadLines
pub mod Codecs
pub mod Lines
pub mod Logs
pub mod Numbers
pub mod Rows
pub mod Searches
pub mod Texts
