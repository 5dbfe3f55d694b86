-- A zone whose frames are all free: its maximal blocks are those of order 10, and of each lower order the last one, if its
-- buddy is no block of the zone. For `set_all_free`.
use Rattle.std.proofs.Common.{◌≡◌, ℕ, ◌+◌, ◌-◌, ◌*◌, ◌/◌, ◌^◌, ◌%◌, ◌<◌, ◌≤◌, ◌⊎◌, true, false, List, replicate, sym, subst, inl, inr, arith}
use Rattle.std.proofs.lemmas.List.{length-replicate, get_or-replicate}
use Rattle.std.proofs.lemmas.Bool.{cases_lt}
use Rattle.std.proofs.lemmas.Nat.{div-add-mod', pow_pos, mod_below}
use Rattle.std.proofs.Math.Nat.{mul-le-mul_right, mul-mod_left, div-mul-le_self, lt-mul-div-succ, mod-le}
use Rattle.zone_blocks.specs.declared.block.Block.{Block}
use Rattle.zone_blocks.specs.{IsBlock, enclosing, IsFreeBlock, IsMaximalBlock, AreMaximalUpTo}
use Rattle.zone_blocks.proofs.Lists.{numbered_is_block}
use Rattle.zone_blocks.proofs.Maximals.{found}
use Rattle.zone_blocks.proofs.Nested.{start_aligned}
use Rattle.zone_blocks.proofs.Pairing.{twice}

free_if_block : (n : ℕ) (b : Block) → IsBlock n b → IsFreeBlock (replicate n true) b
free_if_block n b is = record {
  block = rw (length-replicate n true) is;
  all_free = λ f c. let before = c.before in let inside = is.inside in get_or-replicate n f true false (omega arith);
}

block_if_free : (n : ℕ) (b : Block) → IsFreeBlock (replicate n true) b → IsBlock n b
block_if_free n b h = rw (length-replicate n true) at h.block

-- the number of the first block of order k that lies in none of the next order
abbrev pub IsFirstLeft : ℕ → ℕ → ℕ → Type 0
IsFirstLeft n k first = ((k < 10) × (first ≡ n / 2 ^ k - n / 2 ^ k % 2)) ⊎ ((10 ≤ k) × (first ≡ 0))

pub first_within : (n k first : ℕ) → IsFirstLeft n k first → first ≤ n / 2 ^ k
first_within n k first (inl some) = let e = some.1 in omega (arith, e)
first_within n k first (inr none) = let e = none.1 in omega (arith, e)

-- so many blocks of order k are half as many of the next
first_is_even : (n k first : ℕ) → first ≡ n / 2 ^ k - n / 2 ^ k % 2 → first * 2 ^ k ≡ n / 2 ^ k / 2 * 2 ^ (k + 1)
first_is_even n k first e =
    let half : ℕ = n / 2 ^ k / 2 in
    let s : half * 2 + n / 2 ^ k % 2 ≡ n / 2 ^ k = div-add-mod' (n / 2 ^ k) 2 in
    let f : first ≡ half * 2 = omega (arith, s, e) in
    rw (f, twice k) (omega arith)

-- a block before them lies in one of the next order
none_before : (n k first : ℕ) (b : Block) → k < 10 → first ≡ n / 2 ^ k - n / 2 ^ k % 2 → b.order ≡ k → b.at < first * 2 ^ k
    → IsMaximalBlock (replicate n true) b → ⊥
none_before n k first b l e o before m =
    let wide : ℕ = 2 ^ (k + 1) in
    let even = first_is_even n k first e in
    let q : b.at / wide * wide + b.at % wide ≡ b.at = div-add-mod' b.at wide in
    let low : first ≤ n / 2 ^ k = omega (arith, e) in
    let whole = mul-le-mul_right {m = first} {n = n / 2 ^ k} (2 ^ k) low in
    let within = div-mul-le_self n (2 ^ k) in
    let next : b.at / wide + 1 ≤ n / 2 ^ k / 2 = elim (cases_lt (b.at / wide) (n / 2 ^ k / 2)) [
      | inl lt ↦ omega arith
      | inr ge ↦ let p = mul-le-mul_right {m = n / 2 ^ k / 2} {n = b.at / wide} wide ge in absurd (omega (arith, p, q, even, before))
    ] in
    let p = mul-le-mul_right {m = b.at / wide + 1} {n = n / 2 ^ k / 2} wide next in
    let block : IsBlock n record { at = b.at - b.at % wide; order = k + 1 } = record {
      order = omega arith;
      aligned = start_aligned b.at wide;
      inside = omega (arith, p, q, even, whole, within);
    } in
    let E : ℕ → Type 0 = λ j. IsBlock n record { at = b.at - b.at % 2 ^ (j + 1); order = j + 1 } in
    m.maximal (free_if_block n (enclosing b) (subst E (sym o) block))

pub filled_up_to : (n k first : ℕ) (blocks : List Block) → IsFirstLeft n k first → AreMaximalUpTo (replicate n true) k 0 blocks
    → AreMaximalUpTo (replicate n true) k first blocks
filled_up_to n k first blocks is h = record {
  each = h.each;
  before = λ b c. elim (h.before b c) [ inl lower ↦ inl lower | inr same ↦ let none = same.1 in absurd (omega arith) ];
  all = λ b m l. elim l [
    | inl lower ↦ h.all b m (inl lower)
    | inr same ↦ elim is [
      | inl some ↦ absurd (none_before n k first b some.0 some.1 same.0 same.1 m)
      | inr none ↦ let z = none.1 in let lt = same.1 in absurd (omega (arith, rw z at lt))
    ]
  ];
  ordered = h.ordered;
}

-- no block of the next order fits round a block from there on
none_round : (n k first i : ℕ) → k < 10 → first ≡ n / 2 ^ k - n / 2 ^ k % 2 → first ≤ i → i < n / 2 ^ k
    → IsBlock n (enclosing (found k (i * 2 ^ k))) → ⊥
none_round n k first i l e from within is =
    let below = mod_below (n / 2 ^ k) 2 (omega arith) in
    let le = mod-le (n / 2 ^ k) 2 in
    let same : i ≡ first = omega (arith, e, below, le) in
    let last : n / 2 ^ k ≡ i + 1 = omega (arith, e, below, le) in
    let even = first_is_even n k first e in
    let start : i * 2 ^ k ≡ n / 2 ^ k / 2 * 2 ^ (k + 1) = rw same even in
    let aligned : i * 2 ^ k % 2 ^ (k + 1) ≡ 0 = rw start (mul-mod_left (n / 2 ^ k / 2) (2 ^ (k + 1))) in
    let inside = is.inside in
    let inside' : i * 2 ^ k - 0 + 2 ^ (k + 1) ≤ n = rw aligned at inside in
    let above : n < 2 ^ k * (n / 2 ^ k + 1) = lt-mul-div-succ n (pow_pos k) in
    let above' : n < 2 ^ k * (i + 1 + 1) = rw last at above in
    let t = twice k in
    omega (arith, inside', above', t)

pub maximal_from : (n k first i at : ℕ) → k ≤ 10 → IsFirstLeft n k first → first ≤ i → i < n / 2 ^ k → at ≡ i * 2 ^ k
    → IsMaximalBlock (replicate n true) (found k at)
maximal_from n k first i at order is from within here =
    let P : ℕ → Type 0 = λ x. IsMaximalBlock (replicate n true) (found k x) in
    subst P (sym here) record {
      is_free = free_if_block n (found k (i * 2 ^ k)) (numbered_is_block n k i (omega arith) within);
      maximal = λ g.
          let block = block_if_free n (enclosing (found k (i * 2 ^ k))) g in
          elim is [
            | inl some ↦ none_round n k first i some.0 some.1 from within block
            | inr none ↦ let o = block.order in let t = none.0 in absurd (omega arith)
          ];
    }
