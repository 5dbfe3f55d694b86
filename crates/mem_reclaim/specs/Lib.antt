pub mod Wanted
pub mod Moves
pub mod Units
pub mod Passes
pub mod Shares
pub mod Rounds
pub mod Staying
pub mod Victim
pub mod Sets
pub mod Killing
pub mod KillNotes
pub mod Laws
-- what other crates and the proofs import by one name, `Rattle.mem_reclaim.specs`
pub use Rattle.mem_reclaim.specs.Wanted.{AfterNote, FreesNothing, Reclaiming, WhileWanted, progress}
pub use Rattle.mem_reclaim.specs.Moves.{CountsMisses, FreesBySteps, FreesPages, Rises, all_missed_in, has_kill, is_any_miss, is_kill, is_return}
pub use Rattle.mem_reclaim.specs.Moves.{killed_by, kills_in, missed_in, misses_of, pages_freed_by, pages_returned, returned_in}
pub use Rattle.mem_reclaim.specs.Units.{ScansList, TriesReclaim, TriesReclaimAs}
pub use Rattle.mem_reclaim.specs.Passes.{AgesAndScans, MakesPasses, PassesGroup, ReclaimsPass, subtree_of}
pub use Rattle.mem_reclaim.specs.Shares.{MakesAllPasses, Reclaims, ReclaimsShares, TakesItsShare, may_give, part_of, share_in_reclaim, shares_by}
pub use Rattle.mem_reclaim.specs.Rounds.{ReclaimsAmount, ReclaimsPages, ReclaimsRound, ReclaimsRounds, max_rounds, pages_missing, pages_wanted}
pub use Rattle.mem_reclaim.specs.Rounds.{round_note, at_least}
pub use Rattle.mem_reclaim.specs.Staying.{IsDirtyUnit, IsMissed, Keeps, MissedAll, MissedOfGroup, OnlyLeave, UsageFalls}
pub use Rattle.mem_reclaim.specs.Victim.{IsVictim, may_be_killed, own_frames, victim_note}
pub use Rattle.mem_reclaim.specs.Sets.{HasNoFlagged, IsHighestFlagged, IsKilledRoot, alive_in_subtree, group_kill_note, kill_set}
pub use Rattle.mem_reclaim.specs.Killing.{AreKillsOf, HasNoKeptUnit, IsKilledBy, KeepsStocks, KillsGroupBySteps, KillsGroupNoted, KillsGroups}
pub use Rattle.mem_reclaim.specs.Killing.{KillsGroupsBySteps, KillsRootOrVictim, KillsSubtree, KillsVictim, OnlyDrains, OnlyReleases, ReleasesUnits}
pub use Rattle.mem_reclaim.specs.Killing.{ReleasesUnitsBySteps, counts_before_kill, kept_units, killed_note, victim_of, with_all_killed, with_killed}
pub use Rattle.mem_reclaim.specs.KillNotes.{NotesVictim}
pub use Rattle.mem_reclaim.specs.Laws.{FlaggedGroupsDieWhole, HasAllOrNone, IsChosen, LoneKillsAreNotedAsMade, MissedUnitsWereTried, OnlyTheLivingDie}
pub use Rattle.mem_reclaim.specs.Laws.{RoundsAreNotedAsMade, TheVictimIsOne, VictimsDie}
