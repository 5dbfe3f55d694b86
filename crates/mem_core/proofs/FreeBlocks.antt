-- Free blocks of an order, found by the maximal free blocks (for `free_block`), or frame by frame (for `is_all_free`).
use Rattle.std.proofs.Common.{◌≡◌, ℕ, ◌+◌, ◌-◌, ◌%◌, ◌^◌, ◌<◌, ◌≤◌, Bool, true, false, List, sym, ◌∙◌, ap, subst, arith}
use Rattle.std.proofs.Math.Pow.{pow_mono, mod-mod-pow}
use Rattle.std.proofs.Math.Nat.{zero-mod}
use Rattle.std.proofs.lemmas.List.FromFn.{get_or-map-range_with_len}
use Rattle.zone_blocks.specs.declared.block.Block.{Block}
use Rattle.zone_blocks.specs.{Covers, IsFree, IsFreeBlock, AreMaximalBlocks, HasNoneFrom}
use Rattle.zone_blocks.proofs.Nested.{free_inside, greater_denied}
use Rattle.zone_blocks.proofs.Unique.{in_maximal}
use Rattle.step_rules.specs.declared.phase.Phase.{Phase}
use Rattle.step_rules.specs.{is_free, Zone, free_in}

-- the lower part of a free block is a free block
pub lower_part_is_free : (free : List Bool) (b : Block) (k : ℕ) → IsFreeBlock free b → k ≤ b.order → IsFreeBlock free (record { at = b.at; order = k })
lower_part_is_free free b k block le =
    let j : ℕ = b.order - k in
    let e : j + k ≡ b.order = omega arith in
    let more : b.at % 2 ^ (j + k) ≡ 0 = subst (λ (n : ℕ). b.at % 2 ^ n ≡ 0) (sym e) block.block.aligned in
    let aligned : b.at % 2 ^ k ≡ 0 = sym (mod-mod-pow b.at j k) ∙ ap (λ n. n % 2 ^ k) more ∙ zero-mod (2 ^ k) in
    let less : 2 ^ k ≤ 2 ^ b.order = pow_mono le in
    let top = block.block.order in
    free_inside free (record { at = b.at; order = k }) b block (omega arith) aligned (omega arith) (omega arith)

-- where no maximal free block is of the order or above, no free block is of the order
pub none_is_free : (free : List Bool) (blocks : List Block) (k : ℕ) → AreMaximalBlocks free blocks
    → HasNoneFrom blocks k → (b : Block) → b.order ≡ k → ¬ IsFreeBlock free b
none_is_free free blocks k maximal none b order block =
    let size : 1 ≤ 2 ^ b.order = pow_mono {i = 0} (omega arith) in
    let first : Covers b b.at = record { from = omega arith; before = omega arith } in
    let in_one = in_maximal free b.at (block.all_free b.at first) in
    let less = none in_one.0 (maximal.all in_one.0 in_one.1) in
    greater_denied free in_one.0 b in_one.1 block b.at in_one.2 first (omega arith)

-- a frame of the zone that is free by its phase is one of the set
pub free_there : (zone : Zone) (phases : ℕ → Phase) (f : ℕ) → f < zone.frames → is_free (phases f) ≡ true → IsFree (free_in zone phases) f
free_there zone phases f below e = get_or-map-range_with_len (λ x. is_free (phases x)) 0 zone.frames f f false below (omega arith) ∙ e
