use Rattle.std.proofs.Common.{◌≡◌, ◌-◌}
use Rattle.zone_blocks.specs.Zone.{free_set_of}
use Rattle.zone_blocks.proofs.Halves.{Halving}
use Rattle.zone_blocks.proofs.Merging.{SameUnion}
use Rattle.zone_blocks.proofs.merge.insert_merged.Given as goal

abbrev pub invariant-loop-larger : goal.invariant-loop-larger
invariant-loop-larger l = record {
  halving : Halving l.areas l.merged.at l.merged.order;
  frames : l.areas.frames ≡ l.initial.areas.frames;
  union : SameUnion (free_set_of l.initial.areas) l.initial.merged (free_set_of l.areas) l.merged;
}

abbrev pub decreases-loop-larger : goal.decreases-loop-larger
decreases-loop-larger l = 10 - l.merged.order
