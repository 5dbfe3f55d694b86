-- The frames of a block, as a part of the list of free frames: for `is_free_block`.
use Rattle.std.proofs.Common.{◌≡◌, ℕ, ◌+◌, ◌-◌, ◌^◌, ◌<◌, ◌≤◌, Bool, true, false, List, length, get_or, sym, ◌∙◌, arith}
use Rattle.std.specs.List.{All, between}
use Rattle.std.proofs.lemmas.List.{get_or_default}
use Rattle.std.proofs.lemmas.List.Edits.{length-between, get_or-between}
use Rattle.zone_blocks.specs.declared.block.Block.{Block}
use Rattle.zone_blocks.specs.{IsBlock, IsFreeBlock}

pub free_from_range : (free : List Bool) (a n : ℕ) → a + n ≤ length free → All (λ x. x ≡ true) (between a (a + n) free)
    → (f : ℕ) → a ≤ f → f < a + n → get_or free f false ≡ true
free_from_range free a n fits h f low high =
    let e : a + (f - a) ≡ f = omega arith in
    let l : f - a < length (between a (a + n) free) = omega (arith, length-between free a (a + n) fits) in
    let g : get_or (between a (a + n) free) (f - a) false ≡ get_or free (a + (f - a)) false = get_or-between free a (a + n) (f - a) false (omega arith) in
    rw e at (sym g ∙ h (f - a) false l)

pub range_from_free : (free : List Bool) (a n : ℕ) → a + n ≤ length free → ((f : ℕ) → a ≤ f → f < a + n → get_or free f false ≡ true)
    → All (λ x. x ≡ true) (between a (a + n) free)
range_from_free free a n fits h k d l =
    let k_lt : k < n = omega (arith, length-between free a (a + n) fits) in
    get_or_default (between a (a + n) free) k d false l ∙ get_or-between free a (a + n) k false (omega arith) ∙ h (a + k) (omega arith) (omega arith)

pub free_block_from_range : (free : List Bool) (b : Block) (n : ℕ) → n ≡ 2 ^ b.order → IsBlock (length free) b
    → All (λ x. x ≡ true) (between b.at (b.at + n) free) → IsFreeBlock free b
free_block_from_range free b n e block h =
    let inside = block.inside in
    record { block = block; all_free = λ f c. free_from_range free b.at n (rw e inside) h f c.from (rw e c.before) }

pub range_from_free_block : (free : List Bool) (b : Block) (n : ℕ) → n ≡ 2 ^ b.order → IsFreeBlock free b → All (λ x. x ≡ true) (between b.at (b.at + n) free)
range_from_free_block free b n e h =
    range_from_free free b.at n (rw e h.block.inside) (λ f low high. h.all_free f record { from = low; before = rw e at high })
