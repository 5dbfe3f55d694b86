pub mod Lists
pub mod Packed
pub mod Queue
-- what other crates and the proofs import by one name, `Rattle.lru_lists.specs`
pub use Rattle.lru_lists.specs.Lists.{AllLinked, AreLinked, ChangesOwn, HasNoUnits, IsOnNone, KeepsUnits, MovesOnly, OneOfAllChanges}
pub use Rattle.lru_lists.specs.Lists.{OthersStayLinked, SameOwners, Touches, active_of, changed_at, dirtied, entries_of, entries_without, entry_after}
pub use Rattle.lru_lists.specs.Lists.{entry_of, first_entry, home_in, inactive_of, is_marked_by_touch, list_at, list_of, marked, owner_of, queue_of}
pub use Rattle.lru_lists.specs.Lists.{with_queue}
pub use Rattle.lru_lists.specs.Packed.{IsNumber, link_of, links_of}
pub use Rattle.lru_lists.specs.Queue.{AreNowhere, HasNoRepeats, IsLinked, SameUse, StaysElsewhere, is_among, link_at, list_without, newest_link}
pub use Rattle.lru_lists.specs.Queue.{nowhere, oldest_of, unit_behind, units_of, unlinked}
