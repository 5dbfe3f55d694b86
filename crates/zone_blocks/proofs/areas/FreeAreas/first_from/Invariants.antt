use Rattle.std.proofs.Common.{◌<◌, ◌≤◌}
use Rattle.std.specs.List.{Contains}
use Rattle.zone_blocks.specs.declared.block.Block.{Block}
use Rattle.zone_blocks.proofs.areas.FreeAreas.first_from.Given as goal

abbrev pub invariant-loop-each : goal.invariant-loop-each
invariant-loop-each l = (c : Block) → Contains l.self.blocks c → l.fn.exponent ≤ c.order → c.order < l.each → ⊥
