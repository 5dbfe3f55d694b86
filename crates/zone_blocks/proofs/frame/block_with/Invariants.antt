use Rattle.std.proofs.Common.{◌<◌}
use Rattle.std.specs.List.{Contains}
use Rattle.zone_blocks.specs.declared.block.Block.{Block}
use Rattle.zone_blocks.specs.Block.{Covers}
use Rattle.zone_blocks.proofs.frame.block_with.Given as goal

abbrev pub invariant-loop-exponent : goal.invariant-loop-exponent
invariant-loop-exponent l = (b : Block) → Contains l.areas.blocks b → Covers b l.frame → b.order < l.exponent → ⊥
