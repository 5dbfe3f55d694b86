pub mod Kills
pub mod High
pub mod Room
pub mod Charging
pub mod Rounds
pub mod Frames
pub mod Blocks
pub mod NoRash
pub mod Laws
pub mod KillLaws
pub mod KillBreaches
-- what other crates and the proofs import by one name, `Rattle.mem_alloc.specs`
pub use Rattle.mem_alloc.specs.Kills.{IsAlive, KillsForRoom, KillsIfAllowed, KillsOneVictim, KillsUntilRoom, KillsVictims, NeedsRoom, UnlessNoKill}
pub use Rattle.mem_alloc.specs.Kills.{has_room_at, with_oom_noted_at}
pub use Rattle.mem_alloc.specs.High.{ReclaimsHigh}
pub use Rattle.mem_alloc.specs.Room.{AfterRoom, ClearsBelow, HasMadeRoom, IsRefusedAt, IsRefusedAtSome, IsRefusedFor, IsRoomAnswer, KillsForFewPages}
pub use Rattle.mem_alloc.specs.Room.{MakesRoom, PreparesCharge, ReclaimsBefore, ReclaimsFor, RelievesLimit, with_limit_noted, with_max_noted_at}
pub use Rattle.mem_alloc.specs.Charging.{ChargesAfterDrain, ChargesNoBatch, ChargesOne, DrainsStock, FillsBatch, FillsDrainedStock, FillsStock}
pub use Rattle.mem_alloc.specs.Charging.{LacksBatch, MayFill, MayPay, PaysForFrame}
pub use Rattle.mem_alloc.specs.Rounds.{AfterZoneNote, FailsInRounds, FreesInRound, MakesRound, SucceedsInRounds}
pub use Rattle.mem_alloc.specs.Frames.{AllocatesFrame, FillsList, HasNoFreeFrame, LendsBatch, LendsNoFrame, MakesRefillRounds, RefillsInRounds}
pub use Rattle.mem_alloc.specs.Frames.{RefillsList}
pub use Rattle.mem_alloc.specs.Blocks.{AllocatesBlock, ChargesBlock, FindsNoBlock, MakesTakeRounds, MayHaveBlock, RetriesBlock, TakesAfterDrain}
pub use Rattle.mem_alloc.specs.Blocks.{TakesFreeBlock, TakesInRounds, TakesOrReclaims}
pub use Rattle.mem_alloc.specs.NoRash.{IsChargedBelow, MayKill, MayKillAfter, NoRashKill, begins_with_kill, has_oom_note, is_oom_note}
pub use Rattle.mem_alloc.specs.Laws.{ChargesKillLast, ComesLast, KillsComeLast, KillsEndInTime, RefillsAreWhole, TriesAllWithoutMin, WasLast}
pub use Rattle.mem_alloc.specs.KillLaws.{ChargesKillOverLimits, ChargesKillWholeSets, DiesWithItsSet, GroupsDieWithTheirSets, IsOverLimit}
