use Rattle.std.proofs.Common.{◌≡◌, length}
use Rattle.zone_blocks.proofs.areas.FreeAreas.clear.Given as goal

abbrev pub invariant-loop-block : goal.invariant-loop-block
invariant-loop-block l = l.self.frames ≡ l.initial.self.frames

abbrev pub decreases-loop-block : goal.decreases-loop-block
decreases-loop-block l = length l.self.blocks
