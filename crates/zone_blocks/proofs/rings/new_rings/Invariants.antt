use Rattle.std.proofs.Common.{◌≡◌, ℕ, ◌+◌, ◌<◌, length}
use Rattle.zone_blocks.specs.Links.{next_of, prev_of}
use Rattle.zone_blocks.proofs.rings.new_rings.Given as goal

abbrev pub invariant-loop-exponent : goal.invariant-loop-exponent
invariant-loop-exponent l = record {
  count : length l.links ≡ l.frames + 11;
  heads : (k : ℕ) → k < l.exponent → (next_of l.links (l.frames + k) ≡ l.frames + k) × (prev_of l.links (l.frames + k) ≡ l.frames + k);
}
