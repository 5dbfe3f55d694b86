use Rattle.std.proofs.Common.{◌≡◌}
use Rattle.zone_blocks.specs.OrderLists.{AreMaximalUpTo}
use Rattle.zone_blocks.proofs.areas.FreeAreas.set_from.Given as goal

abbrev pub invariant-loop-exponent : goal.invariant-loop-exponent
invariant-loop-exponent l = record {
  frames : l.self.frames ≡ l.initial.self.frames;
  filled : AreMaximalUpTo l.free l.exponent 0 l.self.blocks;
}
