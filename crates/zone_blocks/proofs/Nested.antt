-- Blocks are nested or apart, so two maximal free blocks that share a frame are one: for the laws, for `set_from` and for callers.
use Rattle.std.proofs.Common.{◌≡◌, ℕ, ◌+◌, ◌-◌, ◌*◌, ◌/◌, ◌^◌, ◌%◌, ◌<◌, ◌≤◌, Bool, List, length, sym, ap, ◌∙◌, inl, inr, arith}
use Rattle.std.proofs.lemmas.Bool.{cases_lt, cases_order}
use Rattle.std.proofs.lemmas.Nat.{div-add-mod', pow_pos, pow-add, mod-pow-add, mod_below}
use Rattle.std.proofs.Math.Nat.{mod-le, mul-mod_left, div-eq_of_lt-le, mul-le-mul_right}
use Rattle.zone_blocks.specs.declared.block.Block.{Block}
use Rattle.zone_blocks.specs.{IsBlock, Covers, enclosing, IsFreeBlock, IsMaximalBlock}
use Rattle.zone_blocks.proofs.Filling.{same_block}

-- a multiple x of m with x ≤ f < x + m is f less its remainder
pub start_is : (x m f : ℕ) → 0 < m → x % m ≡ 0 → x ≤ f → f < x + m → x ≡ f - f % m
start_is x m f pos aligned low high =
    let e : x / m * m + x % m ≡ x = div-add-mod' x m in
    let q : f / m ≡ x / m = div-eq_of_lt-le m (omega (arith, e, aligned)) (omega (arith, e, aligned)) in
    let g : f / m * m + f % m ≡ f = div-add-mod' f m in
    let g' : x / m * m + f % m ≡ f = rw q at g in
    omega (arith, e, aligned, g')

-- the aligned range of 2 ^ j frames round f lies in that of 2 ^ (j + i)
pub nested_low : (f i j : ℕ) → f - f % 2 ^ (i + j) ≤ f - f % 2 ^ j
nested_low f i j =
    let e : f % 2 ^ (i + j) ≡ (f / 2 ^ j % 2 ^ i) * 2 ^ j + f % 2 ^ j = mod-pow-add f i j in
    let l : f % 2 ^ (i + j) ≤ f = mod-le f (2 ^ (i + j)) in
    omega (arith, e, l)

pub nested_high : (f i j : ℕ) → f - f % 2 ^ j + 2 ^ j ≤ f - f % 2 ^ (i + j) + 2 ^ (i + j)
nested_high f i j =
    let e : f % 2 ^ (i + j) ≡ (f / 2 ^ j % 2 ^ i) * 2 ^ j + f % 2 ^ j = mod-pow-add f i j in
    let l : f / 2 ^ j % 2 ^ i < 2 ^ i = mod_below (f / 2 ^ j) (2 ^ i) (pow_pos i) in
    let m : (f / 2 ^ j % 2 ^ i + 1) * 2 ^ j ≤ 2 ^ i * 2 ^ j = mul-le-mul_right {m = f / 2 ^ j % 2 ^ i + 1} {n = 2 ^ i} (2 ^ j) (omega (arith, l)) in
    let p : 2 ^ (i + j) ≡ 2 ^ i * 2 ^ j = pow-add 2 i j in
    let g : f / 2 ^ (i + j) * 2 ^ (i + j) + f % 2 ^ (i + j) ≡ f = div-add-mod' f (2 ^ (i + j)) in
    let h : f / 2 ^ j * 2 ^ j + f % 2 ^ j ≡ f = div-add-mod' f (2 ^ j) in
    omega (arith, e, m, p, g, h)

pub start_aligned : (x m : ℕ) → (x - x % m) % m ≡ 0
start_aligned x m =
    let e : x / m * m + x % m ≡ x = div-add-mod' x m in
    let s : x - x % m ≡ x / m * m = omega (arith, e) in
    rw s (mul-mod_left (x / m) m)

-- a block that shares a frame with one of a greater or the same order begins inside it
pub begins_inside : (n : ℕ) (a b : Block) → IsBlock n a → IsBlock n b → a.order ≤ b.order → (f : ℕ) → Covers a f → Covers b f → Covers b a.at
begins_inside n a b ha hb le f ca cb =
    let i : ℕ = b.order - a.order in
    let e : i + a.order ≡ b.order = omega arith in
    let sa = start_is a.at (2 ^ a.order) f (pow_pos a.order) ha.aligned ca.from ca.before in
    let sb = start_is b.at (2 ^ b.order) f (pow_pos b.order) hb.aligned cb.from cb.before in
    let low = rw e at (nested_low f i a.order) in
    let from = cb.from in
    let before = cb.before in
    let begin = ca.from in
    record { from = omega (arith, sa, sb, low); before = omega arith }

-- the block of the next order that encloses a lies inside a block of a greater order that shares a frame with a
pub enclosing_inside : (n : ℕ) (a b : Block) → IsBlock n a → IsBlock n b → a.order < b.order → (f : ℕ) → Covers a f → Covers b f
    → (b.at ≤ (enclosing a).at) × ((enclosing a).at + 2 ^ (a.order + 1) ≤ b.at + 2 ^ b.order)
enclosing_inside n a b ha hb lt f ca cb =
    let i : ℕ = b.order - (a.order + 1) in
    let e : i + (a.order + 1) ≡ b.order = omega arith in
    let c = begins_inside n a b ha hb (omega arith) f ca cb in
    let sb = start_is b.at (2 ^ b.order) a.at (pow_pos b.order) hb.aligned c.from c.before in
    let low = rw e at (nested_low a.at i (a.order + 1)) in
    let high = rw e at (nested_high a.at i (a.order + 1)) in
    (omega (arith, sb, low), omega (arith, sb, high))

-- a block inside a free block is free
pub free_inside : (free : List Bool) (a b : Block) → IsFreeBlock free b → a.order ≤ 10 → a.at % 2 ^ a.order ≡ 0 → b.at ≤ a.at
    → a.at + 2 ^ a.order ≤ b.at + 2 ^ b.order → IsFreeBlock free a
free_inside free a b h order aligned low high =
    let inside = h.block.inside in
    record {
      block = record { order = order; aligned = aligned; inside = omega arith };
      all_free = λ f c. let from = c.from in let before = c.before in h.all_free f record { from = omega arith; before = omega arith };
    }

-- a maximal free block shares no frame with a free block of a greater order
pub greater_denied : (free : List Bool) (a b : Block) → IsMaximalBlock free a → IsFreeBlock free b → (f : ℕ) → Covers a f → Covers b f → a.order < b.order → ⊥
greater_denied free a b ha hb f ca cb lt =
    let r = enclosing_inside (length free) a b ha.is_free.block hb.block lt f ca cb in
    let top = hb.block.order in
    ha.maximal (free_inside free (enclosing a) b hb (omega arith) (start_aligned a.at (2 ^ (a.order + 1))) r.0 r.1)

-- two maximal free blocks that share a frame are one
pub same_maximal : (free : List Bool) (a b : Block) → IsMaximalBlock free a → IsMaximalBlock free b → (f : ℕ) → Covers a f → Covers b f → a ≡ b
same_maximal free a b ha hb f ca cb =
    let sa = start_is a.at (2 ^ a.order) f (pow_pos a.order) ha.is_free.block.aligned ca.from ca.before in
    let sb = start_is b.at (2 ^ b.order) f (pow_pos b.order) hb.is_free.block.aligned cb.from cb.before in
    elim (cases_order a.order b.order) [
      | inl e ↦
          let start : ℕ → ℕ = λ k. f - f % 2 ^ k in
          same_block a b (sa ∙ ap start e ∙ sym sb) e
      | inr d ↦ elim d [
        | inl lt ↦ absurd (greater_denied free a b ha hb.is_free f ca cb lt)
        | inr gt ↦ absurd (greater_denied free b a hb ha.is_free f cb ca gt)
      ]
    ]

-- of two blocks that share a frame the one of the lesser or the same order lies inside the other
pub block_inside : (n : ℕ) (a b : Block) → IsBlock n a → IsBlock n b → a.order ≤ b.order → (f : ℕ) → Covers a f → Covers b f
    → (b.at ≤ a.at) × (a.at + 2 ^ a.order ≤ b.at + 2 ^ b.order)
block_inside n a b ha hb le f ca cb =
    let i : ℕ = b.order - a.order in
    let e : i + a.order ≡ b.order = omega arith in
    let sa = start_is a.at (2 ^ a.order) f (pow_pos a.order) ha.aligned ca.from ca.before in
    let sb = start_is b.at (2 ^ b.order) f (pow_pos b.order) hb.aligned cb.from cb.before in
    let low = rw e at (nested_low f i a.order) in
    let high = rw e at (nested_high f i a.order) in
    (omega (arith, sa, sb, low), omega (arith, sa, sb, high))

-- a free block lies inside the maximal free block with which it shares a frame
pub inside_maximal : (free : List Bool) (a m : Block) → IsFreeBlock free a → IsMaximalBlock free m → (f : ℕ) → Covers a f → Covers m f
    → (m.at ≤ a.at) × (a.at + 2 ^ a.order ≤ m.at + 2 ^ m.order)
inside_maximal free a m ha hm f ca cm =
    elim (cases_lt m.order a.order) [
      | inl lt ↦ absurd (greater_denied free m a hm ha f cm ca lt)
      | inr ge ↦ block_inside (length free) a m ha.block hm.is_free.block ge f ca cm
    ]

-- a block's first frame is one of the block that encloses it
pub enclosing_covers : (b : Block) → Covers (enclosing b) b.at
enclosing_covers b =
    let below = mod_below b.at (2 ^ (b.order + 1)) (pow_pos (b.order + 1)) in
    let le = mod-le b.at (2 ^ (b.order + 1)) in
    record { from = omega arith; before = omega (arith, below, le) }

pub covers_start : (b : Block) → Covers b b.at
covers_start b = let pos = pow_pos b.order in record { from = omega arith; before = omega arith }
