pub mod CallerLemmas
pub mod ChargeLemmas
pub mod KeptLemmas
pub mod ReaderLemmas
pub mod StoredLemmas
pub mod SumLemmas
pub mod UsageLemmas
pub mod WalkLemmas
mod Counting
