pub mod AncestorLemmas
pub mod CallerLemmas
pub mod EventLemmas
pub mod GroupLemmas
pub mod SlotLemmas
pub mod PathLemmas
pub mod TextLemmas
pub mod Walks
