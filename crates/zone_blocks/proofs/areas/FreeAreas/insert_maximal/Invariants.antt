use Rattle.std.proofs.Common.{◌≡◌}
use Rattle.zone_blocks.specs.OrderLists.{AreMaximalUpTo}
use Rattle.zone_blocks.proofs.areas.FreeAreas.insert_maximal.Given as goal

abbrev pub invariant-loop-index : goal.invariant-loop-index
invariant-loop-index l = record {
  frames : l.self.frames ≡ l.initial.self.frames;
  filled : AreMaximalUpTo l.free l.order l.index l.self.blocks;
}
