use Rattle.std.proofs.Common.{◌≡◌, ◌≤◌, List, Bool}
use Rattle.zone_blocks.specs.Zone.{block_at, free_set_of, TakesFrames}
use Rattle.zone_blocks.proofs.Halves.{Halving}
use Rattle.zone_blocks.proofs.split.free_upper_halves.Given as goal

abbrev pub invariant-loop-exponent : goal.invariant-loop-exponent
invariant-loop-exponent l = record {
  halving : Halving l.areas l.block.at l.exponent;
  frames : l.areas.frames ≡ l.initial.areas.frames;
  enough : l.order ≤ l.exponent;
  taken : (free : List Bool) → TakesFrames free l.block (free_set_of l.initial.areas)
      → TakesFrames free (block_at l.block.at l.exponent) (free_set_of l.areas);
}

abbrev pub decreases-loop-exponent : goal.decreases-loop-exponent
decreases-loop-exponent l = l.exponent
