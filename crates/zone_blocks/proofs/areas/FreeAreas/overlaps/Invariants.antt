use Rattle.std.proofs.Common.{ℕ, ◌<◌, [], get_or}
use Rattle.zone_blocks.specs.OrderLists.{MeetsRange}
use Rattle.zone_blocks.proofs.areas.FreeAreas.overlaps.Given as goal

abbrev pub invariant-loop-exponent : goal.invariant-loop-exponent
invariant-loop-exponent l = (k : ℕ) → k < l.exponent → MeetsRange (get_or l.self-inside.bits.items k []) k l.block.at l.end → ⊥
