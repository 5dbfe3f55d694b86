-- The free areas are determined by the run: the maximal blocks of the frames whose place is Free (Gorman, chapter 6).
use Rattle.std.specs.Prelude.{◌≡◌, Bool, List, map}
use Rattle.std.specs.List.{range_with_len}
use Rattle.zone_blocks.specs.declared.block.Block.{Block}
use Rattle.zone_blocks.specs.Areas.{AreMaximalBlocks}
use Rattle.step_rules.specs.declared.step.FramePlace.TheVariants.{Free}
use Rattle.step_rules.specs.State.{Zone, free_in}
use Rattle.step_rules.specs.After.{Run, state_of, IsLegalRun}
use Rattle.step_rules.specs.Places.{places_of}

-- which frames are free after the run: for each frame of the zone, whether it has the place Free
abbrev pub free_frames : Zone → Run → List Bool
free_frames zone run = map (λ f. places_of zone run f Free) (range_with_len 0 zone.frames)

-- the frames that are free by their phases are those with the place Free, and they have one list of maximal free blocks
pub record AreasFollowRun (zone : Zone) (run : Run) : Type 0 where
  pub same : free_in (state_of zone run).zone (state_of zone run).phases ≡ free_frames zone run
  pub one : (a b : List Block) → AreMaximalBlocks (free_frames zone run) a → AreMaximalBlocks (free_frames zone run) b
      → a ≡ b

-- after every legal run the free frames and their one list of blocks are those of the run
abbrev pub AllAreasFollowRun : Type 0
AllAreasFollowRun = (zone : Zone) (run : Run) → IsLegalRun zone run → AreasFollowRun zone run
