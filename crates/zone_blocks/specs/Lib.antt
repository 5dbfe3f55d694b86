pub mod Areas
pub mod Block
pub mod Laws
pub mod Links
pub mod OrderLists
pub mod PairBits
pub mod Config
pub mod Zone
-- what other crates and the proofs import by one name, `Rattle.zone_blocks.specs`
pub use Rattle.zone_blocks.specs.Areas.{AreBlocksApart, AreMaximalBlocks, FreeBlocks, HasNoneFrom, HasNoneOf, Inserts, IsFirstOf, IsFree, IsFreeBlock}
pub use Rattle.zone_blocks.specs.Areas.{IsFrontOfSmallest, IsMaximalBlock, IsOneOfPair, IsSmallestFrom, Overlaps, Precedes, RemovesBlock}
pub use Rattle.zone_blocks.specs.Block.{Covers, HasPairBit, IsBlock, buddy, enclosing}
pub use Rattle.zone_blocks.specs.Laws.{EveryFrameInABlockIsFree, EveryFreeFrameIsInOneBlock, IsInOneBlock, MaximalBlocksAreUnique}
pub use Rattle.zone_blocks.specs.Links.{Joins, next_of, prev_of}
pub use Rattle.zone_blocks.specs.OrderLists.{AreApart, AreBlockBits, AreMaximalUpTo, AreOrderLists, AreRings, ComesAfter, Follows, HasNoneAfter}
pub use Rattle.zone_blocks.specs.OrderLists.{IsLastBefore, IsNextAfter, IsNode, IsNodeBefore, IsNodeBelow, IsStart, MeetsRange, blocks_of}
pub use Rattle.zone_blocks.specs.OrderLists.{blocks_of_order, blocks_of_zone, has_block_bit, head_of, with_bit}
pub use Rattle.zone_blocks.specs.PairBits.{AreBitLists, ArePairBits, ChangesOne, bit_of, pair_of, toggled}
pub use Rattle.zone_blocks.specs.Config.{IsValidConfig, most_cpus, most_frames, no_choices}
pub use Rattle.zone_blocks.specs.Zone.{AreSoundAreas, BuddyZone, GivesFrames, HasNoBuddy, IsInUse, TakesBuddy, TakesFrames, block_at, free_set_of}
