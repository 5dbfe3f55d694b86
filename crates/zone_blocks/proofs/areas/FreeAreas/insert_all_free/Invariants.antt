use Rattle.std.proofs.Common.{◌≡◌, replicate, true}
use Rattle.zone_blocks.specs.OrderLists.{AreMaximalUpTo}
use Rattle.zone_blocks.proofs.AllFree.{IsFirstLeft}
use Rattle.zone_blocks.proofs.areas.FreeAreas.insert_all_free.Given as goal

abbrev pub invariant-loop-index : goal.invariant-loop-index
invariant-loop-index l = record {
  frames : l.self.frames ≡ l.initial.self.frames;
  left : IsFirstLeft l.initial.self.frames l.order l.first;
  filled : AreMaximalUpTo (replicate l.initial.self.frames true) l.order l.index l.self.blocks;
}
