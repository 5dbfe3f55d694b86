use Rattle.std.proofs.Common.{◌≡◌, ℕ, ◌+◌, ◌/◌, ◌^◌, ◌<◌, [], length, get_or}
use Rattle.std.specs.Vec.{vec_capacity}
use Rattle.bit_levels.specs.Sets.{IsIn}
use Rattle.zone_blocks.proofs.pairs.new_pairs.Given as goal

abbrev pub invariant-loop-exponent : goal.invariant-loop-exponent
invariant-loop-exponent l = record {
  count : length l.pairs.items ≡ l.exponent;
  spare : vec_capacity l.pairs ≡ 10;
  each : (k : ℕ) → k < l.exponent → length (get_or l.pairs.items k []) ≡ l.frames / 2 ^ (k + 1);
  none : (k i : ℕ) → k < l.exponent → IsIn (get_or l.pairs.items k []) i → ⊥;
}
