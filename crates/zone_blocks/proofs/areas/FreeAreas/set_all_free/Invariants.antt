use Rattle.std.proofs.Common.{◌≡◌, replicate, true}
use Rattle.zone_blocks.specs.OrderLists.{AreMaximalUpTo}
use Rattle.zone_blocks.proofs.areas.FreeAreas.set_all_free.Given as goal

abbrev pub invariant-loop-exponent : goal.invariant-loop-exponent
invariant-loop-exponent l = record {
  frames : l.self.frames ≡ l.initial.self.frames;
  filled : AreMaximalUpTo (replicate l.initial.self.frames true) l.exponent 0 l.self.blocks;
}
