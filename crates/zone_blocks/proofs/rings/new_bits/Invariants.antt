use Rattle.std.proofs.Common.{◌≡◌, ℕ, ◌/◌, ◌^◌, ◌<◌, [], length, get_or}
use Rattle.std.specs.Vec.{vec_capacity}
use Rattle.bit_levels.specs.Sets.{IsIn}
use Rattle.zone_blocks.proofs.rings.new_bits.Given as goal

abbrev pub invariant-loop-exponent : goal.invariant-loop-exponent
invariant-loop-exponent l = record {
  count : length l.all.items ≡ l.exponent;
  spare : vec_capacity l.all ≡ 11;
  each : (k : ℕ) → k < l.exponent → length (get_or l.all.items k []) ≡ l.frames / 2 ^ k;
  none : (k i : ℕ) → k < l.exponent → IsIn (get_or l.all.items k []) i → ⊥;
}
