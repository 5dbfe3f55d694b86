-- Empty areas that are filled with the maximal free blocks, order by order and by address: for `set_from`.
use Rattle.std.proofs.Common.{◌≡◌, ℕ, ◌+◌, ◌*◌, ◌/◌, ◌^◌, ◌%◌, ◌<◌, ◌≤◌, ◌⊎◌, Bool, List, length, sym, ap, ◌∙◌, subst, inl, inr, arith}
use Rattle.std.specs.List.{Contains}
use Rattle.std.proofs.lemmas.Bool.{cases_lt}
use Rattle.std.proofs.lemmas.Nat.{div-add-mod', le-div, pow_pos}
use Rattle.std.proofs.Math.Nat.{mul-le-mul_right}
use Rattle.zone_blocks.specs.declared.block.Block.{Block}
use Rattle.zone_blocks.specs.{IsMaximalBlock, AreMaximalBlocks, Inserts, Overlaps, AreMaximalUpTo}
use Rattle.zone_blocks.proofs.Filling.{same_block, multiple_below}
use Rattle.zone_blocks.proofs.Nested.{same_maximal}

abbrev pub found : ℕ → ℕ → Block
found order at = record { at = at; order = order }

aligned_at : (free : List Bool) (b : Block) (order : ℕ) → b.order ≡ order → IsMaximalBlock free b → b.at % 2 ^ order ≡ 0
aligned_at free b order e m = let h = m.is_free.block.aligned in rw e at h

-- what lies before one more number lies before this one, or is the block with it
before_more : (free : List Bool) (order i at : ℕ) (b : Block) → at ≡ i * 2 ^ order → IsMaximalBlock free b
    → (b.order < order) ⊎ ((b.order ≡ order) × (b.at < (i + 1) * 2 ^ order))
    → ((b.order < order) ⊎ ((b.order ≡ order) × (b.at < i * 2 ^ order))) ⊎ (b ≡ found order at)
before_more free order i at b here m (inl lower) = inl (inl lower)
before_more free order i at b here m (inr (o, l)) =
    elim (multiple_below b.at (2 ^ order) i (pow_pos order) (aligned_at free b order o m) l) [
      | inl p ↦ inl (inr (o, p))
      | inr p ↦ inr (same_block b (found order at) (p ∙ sym here) o)
    ]

more_before : (order i : ℕ) (b : Block) → (b.order < order) ⊎ ((b.order ≡ order) × (b.at < i * 2 ^ order))
    → (b.order < order) ⊎ ((b.order ≡ order) × (b.at < (i + 1) * 2 ^ order))
more_before order i b (inl lower) = inl lower
more_before order i b (inr (o, l)) = let m = mul-le-mul_right {m = i} {n = i + 1} (2 ^ order) (omega arith) in inr (o, omega (arith, m, l))

pub filled_skip : (free : List Bool) (order i at : ℕ) (blocks : List Block) → at ≡ i * 2 ^ order → (IsMaximalBlock free (found order at) → ⊥)
    → AreMaximalUpTo free order i blocks → AreMaximalUpTo free order (i + 1) blocks
filled_skip free order i at blocks here not h = record {
  each = h.each;
  before = λ b c. more_before order i b (h.before b c);
  all = λ b m l. elim (before_more free order i at b here m l) [
    | inl p ↦ h.all b m p
    | inr e ↦ absurd (not (subst (IsMaximalBlock free) e m))
  ];
  ordered = h.ordered;
}

pub filled_push : (free : List Bool) (order i at : ℕ) (old new : List Block) → at ≡ i * 2 ^ order → IsMaximalBlock free (found order at)
    → AreMaximalUpTo free order i old → Inserts old (found order at) new → AreMaximalUpTo free order (i + 1) new
filled_push free order i at old new here is h change = record {
  each = λ b c. elim (change.only b c) [
    | inl o ↦ h.each b o
    | inr e ↦ subst (IsMaximalBlock free) (sym e) is
  ];
  before = λ b c. elim (change.only b c) [
    | inl o ↦ more_before order i b (h.before b o)
    | inr e ↦
        let address : Block → ℕ = λ z. z.at in
        let order_of : Block → ℕ = λ z. z.order in
        inr (ap order_of e, omega (arith, ap address e, here, pow_pos order))
  ];
  all = λ b m l. elim (before_more free order i at b here m l) [
    | inl p ↦ change.keeps b (h.all b m p)
    | inr e ↦ subst (Contains new) (sym e) change.there
  ];
  ordered = change.ordered;
}

-- the next block in turn shares no frame with those that are there
pub apart_yet : (free : List Bool) (order i at : ℕ) (blocks : List Block) → at ≡ i * 2 ^ order
    → IsMaximalBlock free (found order at) → AreMaximalUpTo free order i blocks
    → Overlaps blocks (found order at) → ⊥
apart_yet free order i at blocks here is h (c, q, (f, cc, cb)) =
    let e = same_maximal free c (found order at) (h.each c q) is f cc cb in
    let address : Block → ℕ = λ z. z.at in
    let order_of : Block → ℕ = λ z. z.order in
    elim (h.before c q) [
      | inl lower ↦ absurd (omega (arith, lower, ap order_of e))
      | inr same ↦ let l = same.1 in absurd (omega (arith, l, ap address e, here))
    ]

-- all numbers of an order were met
pub filled_order : (free : List Bool) (order i : ℕ) (blocks : List Block) → i ≡ length free / 2 ^ order
    → AreMaximalUpTo free order i blocks → AreMaximalUpTo free (order + 1) 0 blocks
filled_order free order i blocks here h = record {
  each = h.each;
  before = λ b c. elim (h.before b c) [ inl lower ↦ inl (omega arith) | inr same ↦ let o = same.0 in inl (omega arith) ];
  all = λ b m l. elim l [
    | inr same ↦ let z = same.1 in absurd (omega arith)
    | inl lower ↦ elim (cases_lt b.order order) [
      | inl lt ↦ h.all b m (inl lt)
      | inr ge ↦
          let o : b.order ≡ order = omega arith in
          let fits = m.is_free.block.inside in
          let q : b.at / 2 ^ order * 2 ^ order + b.at % 2 ^ order ≡ b.at = div-add-mod' b.at (2 ^ order) in
          let a = aligned_at free b order o m in
          let fits' = rw o at fits in
          let r : b.at / 2 ^ order + 1 ≤ length free / 2 ^ order =
          le-div (b.at / 2 ^ order + 1) (length free) (2 ^ order) (pow_pos order) (omega (arith, q, a, fits')) in
          let r' : b.at / 2 ^ order + 1 ≤ i = omega (arith, r, here) in
          let s = mul-le-mul_right {m = b.at / 2 ^ order + 1} {n = i} (2 ^ order) r' in
          h.all b m (inr (o, omega (arith, q, a, s, pow_pos order)))
    ]
  ];
  ordered = h.ordered;
}

-- all orders were met
pub filled_all : (free : List Bool) (order : ℕ) (blocks : List Block) → 11 ≤ order → AreMaximalUpTo free order 0 blocks → AreMaximalBlocks free blocks
filled_all free order blocks l h = record {
  each = h.each;
  all = λ b m. let o = m.is_free.block.order in h.all b m (inl (omega arith));
  ordered = h.ordered;
}
