-- The set that words of 64 bits tell: for each call of `Bits`.
use Rattle.std.proofs.Common.{◌≡◌, ◌≢◌, ℕ, ◌+◌, ◌*◌, ◌/◌, ◌%◌, ◌^◌, ◌<◌, ◌≤◌, ◌↔◌, Bool, true, false, List, Option, Some, None, is_some, length}
use Rattle.std.proofs.Common.{get_or, set, replicate, eqb, eq-eqb, refl, sym, ap, ◌∙◌, inl, inr, arith, length-set}
use Rattle.std.specs.Option.{MatchOption}
use Rattle.std.specs.Int.{bit_at, w64, trailing_zeros}
use Rattle.std.proofs.lemmas.List.{get_or_past, same_lists, get_or-set_same, get_or-set_other, get_or-replicate, length-replicate}
use Rattle.std.proofs.lemmas.List.FromFn.{length-map-range_with_len, get_or-map-range_with_len}
use Rattle.std.proofs.lemmas.Bool.{cases_lt, cases_eq, false≢true, eqb-true, ne_eqb}
use Rattle.std.proofs.lemmas.Nat.Bits.{bit_at-zero, bit_at-trailing_zeros}
use Rattle.bit_levels.specs.Sets.{IsIn, HasNoneIn, HasSomeIn, IsLastIn, is_set, set_of, AreWords}

pub length-set_of : (n : ℕ) (words : List ℕ) → length (set_of n words) ≡ n
unfolding set_of
length-set_of n words = length-map-range_with_len (is_set words) 0 n

read_below : (n : ℕ) (words : List ℕ) (i : ℕ) (d : Bool) → i < n → get_or (set_of n words) i d ≡ is_set words i
unfolding set_of
read_below n words i d l = get_or-map-range_with_len (is_set words) 0 n i i d l (omega arith)

pub read_set : (n : ℕ) (words : List ℕ) → AreWords n words → (i : ℕ) → get_or (set_of n words) i false ≡ is_set words i
read_set n words h i =
    elim (cases_lt i n) [
      | inl l ↦ read_below n words i false l
      | inr past ↦ get_or_past (set_of n words) i false (omega (arith, length-set_of n words)) ∙ sym (h.rest i past)
    ]

-- the number at a place of a word
pub at_place : (words : List ℕ) (k p : ℕ) → p < 64 → is_set words (k * 64 + p) ≡ eqb (bit_at (get_or words k 0) p) 1
at_place words k p l =
    let q : (k * 64 + p) / 64 ≡ k = omega arith in
    let r : (k * 64 + p) % 64 ≡ p = omega arith in
    rw (q, r) refl

pub in_place : (n : ℕ) (words : List ℕ) → AreWords n words → (k p : ℕ) → p < 64 → bit_at (get_or words k 0) p ≡ 1 → IsIn (set_of n words) (k * 64 + p)
in_place n words h k p l e = read_set n words h (k * 64 + p) ∙ at_place words k p l ∙ eq-eqb _ _ e

pub from_in : (n : ℕ) (words : List ℕ) → AreWords n words → (i : ℕ) → IsIn (set_of n words) i → bit_at (get_or words (i / 64) 0) (i % 64) ≡ 1
from_in n words h i is = eqb-true _ _ (sym (read_set n words h i) ∙ is)

pub one_in : (n : ℕ) (words : List ℕ) → AreWords n words → (i : ℕ) → bit_at (get_or words (i / 64) 0) (i % 64) ≡ 1 → IsIn (set_of n words) i
one_in n words h i e = read_set n words h i ∙ eq-eqb _ _ e

-- ---- the empty set

none_set : (m : ℕ) (words : List ℕ) → words ≡ replicate m 0 → (i : ℕ) → bit_at (get_or words (i / 64) 0) (i % 64) ≡ 1 → ⊥
none_set m words w i q =
    let z : get_or words (i / 64) 0 ≡ 0 = elim (cases_lt (i / 64) m) [
      | inl l ↦ rw w (get_or-replicate {A = ℕ} m (i / 64) 0 0 l)
      | inr past ↦ rw w (get_or_past {X = ℕ} (replicate m 0) (i / 64) 0 (omega (arith, length-replicate {A = ℕ} m 0)))
    ] in
    let b = bit_at-zero (i % 64) in
    let q' = rw z at q in
    absurd (omega (arith, b, q'))

pub empty_words : (n m : ℕ) → n < 2 ^ 64 → m ≡ n / 64 + 1 → (words : List ℕ) → words ≡ replicate m 0 → AreWords n words
empty_words n m small e words w = record {
  small = small;
  count = rw w (length-replicate {A = ℕ} m 0 ∙ e);
  rest = λ i l. ne_eqb _ _ (λ q. none_set m words w i q);
}

pub empty_set : (n m : ℕ) → m ≡ n / 64 + 1 → (words : List ℕ) → words ≡ replicate m 0 → set_of n words ≡ replicate n false
empty_set n m e words w =
    same_lists (set_of n words) (replicate n false) (length-set_of n words ∙ sym (length-replicate n false)) (λ k d l.
    let l' : k < n = omega (arith, length-set_of n words) in
    read_below n words k d l' ∙ ne_eqb _ _ (λ q. none_set m words w k q) ∙ sym (get_or-replicate n k false d l'))

-- ---- one bit changed

same_bit : (a b : ℕ) → (v : Bool) → ((a ≡ 1) ↔ (v ≡ true)) → eqb a 1 ≡ v
same_bit a b true h = eq-eqb a 1 (h.1 refl)
same_bit a b false h = ne_eqb a 1 (λ e. false≢true (h.0 e))

set_read : (words : List ℕ) (i w : ℕ) (v : Bool) → i / 64 < length words → ((bit_at w (i % 64) ≡ 1) ↔ (v ≡ true))
    → ((p : ℕ) → p < 64 → p ≢ i % 64 → bit_at w p ≡ bit_at (get_or words (i / 64) 0) p)
    → (is_set (set words (i / 64) w) i ≡ v) × ((j : ℕ) → j ≢ i → is_set (set words (i / 64) w) j ≡ is_set words j)
set_read words i w v within here others =
    let new = get_or-set_same words (i / 64) w 0 within in (
      rw new (same_bit (bit_at w (i % 64)) 0 v here),
      λ j ne. elim (cases_eq (j / 64) (i / 64)) [
        | inl e ↦ rw (e, new, others (j % 64) (omega arith) (omega (arith, e, ne))) refl
        | inr other ↦ rw (get_or-set_other words (i / 64) (j / 64) w 0 other) refl
      ],
    )

pub set_words : (n : ℕ) (words : List ℕ) → AreWords n words → (i w : ℕ) (v : Bool) → i < n → ((bit_at w (i % 64) ≡ 1) ↔ (v ≡ true))
    → ((p : ℕ) → p < 64 → p ≢ i % 64 → bit_at w p ≡ bit_at (get_or words (i / 64) 0) p)
    → AreWords n (set words (i / 64) w) × (set_of n (set words (i / 64) w) ≡ set (set_of n words) i v)
set_words n words h i w v l here others =
    let count = h.count in
    let r = set_read words i w v (omega arith) here others in
    let new : List ℕ = set words (i / 64) w in
    let size = length-set_of n words in (
      record { small = h.small; count = length-set words (i / 64) w ∙ count; rest = λ j past. r.1 j (omega arith) ∙ h.rest j past },
      same_lists (set_of n new) (set (set_of n words) i v) (length-set_of n new ∙ sym (length-set (set_of n words) i v ∙ size)) (λ k d m.
          let m' : k < n = omega (arith, length-set_of n new) in
          read_below n new k d m' ∙ elim (cases_eq k i) [
            | inl e ↦ rw (e, get_or-set_same (set_of n words) i v d (omega (arith, size))) r.0
            | inr ne ↦ r.1 k ne ∙ sym (read_below n words k d m') ∙ sym (get_or-set_other (set_of n words) i k v d ne)
          ]),
    )

-- ---- the members of one word

pub none_in_word : (n : ℕ) (words : List ℕ) → AreWords n words → (k high w : ℕ) → high ≤ k * 64 + 64
    → ((p : ℕ) → k * 64 + p < high → bit_at w p ≡ bit_at (get_or words k 0) p) → w ≡ 0 → HasNoneIn (set_of n words) (k * 64) high
none_in_word n words h k high w within same z i from before is =
    let e : i / 64 ≡ k = omega arith in
    let b = from_in n words h i is in
    let s = same (i % 64) (omega (arith, e)) in
    let zero_bit = bit_at-zero (i % 64) in
    let b' = rw e at b in
    let s' = rw z at s in
    absurd (omega (arith, b', s', zero_bit))

pub last_in_word_is : (n : ℕ) (words : List ℕ) → AreWords n words → (k high w p : ℕ) → high ≤ k * 64 + 64 → k * 64 + p < high
    → ((i : ℕ) → k * 64 + i < high → bit_at w i ≡ bit_at (get_or words k 0) i)
    → p < 64 → bit_at w p ≡ 1 → ((i : ℕ) → p < i → bit_at w i ≡ 0) → IsLastIn (set_of n words) (k * 64) high (k * 64 + p)
last_in_word_is n words h k high w p within inside same l one none = record {
  from = omega arith;
  before = inside;
  there = in_place n words h k p l (sym (same p inside) ∙ one);
  none_after = λ i from before is.
      let e : i / 64 ≡ k = omega arith in
      let b = from_in n words h i is in
      let b' = rw e at b in
      let s = same (i % 64) (omega (arith, e)) in
      let z = none (i % 64) (omega (arith, e)) in
      absurd (omega (arith, b', s, z));
}

-- a word is 0 exactly where none of its numbers is a member
pub some_in_word : (n : ℕ) (words : List ℕ) → AreWords n words → (k w : ℕ) → w ≡ get_or words k 0 → w < 2 ^ 64 → w ≢ 0
    → HasSomeIn (set_of n words) (k * 64) (k * 64 + 64)
some_in_word n words h k w e fits some =
    let t = bit_at-trailing_zeros w64 w (omega (arith, some)) fits in
    let one = rw e at t.1 in
    record {
      number = k * 64 + trailing_zeros w64 w;
      from = omega arith;
      before = omega (arith, t.0);
      there = in_place n words h k (trailing_zeros w64 w) t.0 (rw (sym e) t.1);
    }

pub not_some : (xs : List Bool) (low high : ℕ) → HasNoneIn xs low high → HasSomeIn xs low high → ⊥
not_some xs low high none some = none some.number some.from some.before some.there

pub bound_of : (n : ℕ) (words : List ℕ) (xs : List Bool) → set_of n words ≡ xs → length xs ≡ n
bound_of n words xs e = let size : List Bool → ℕ = λ ys. length ys in sym (ap size e) ∙ length-set_of n words

pub same_truth : (r b : Bool) → ((r ≡ true) ↔ (b ≡ true)) → r ≡ b
same_truth true b h = sym (h.0 refl)
same_truth false true h = absurd (false≢true (h.1 refl))
same_truth false false h = refl

-- ---- a search over several words

pub wider : (xs : List Bool) (low high : ℕ) (r : Option ℕ) → MatchOption r (HasNoneIn xs low high) (IsLastIn xs low high)
    → MatchOption r (HasNoneIn xs low high) (IsLastIn xs 0 high)
wider xs low high None h = h
wider xs low high (Some y) h = record { from = omega arith; before = h.before; there = h.there; none_after = h.none_after }

pub joined_none : (xs : List Bool) (a b c : ℕ) → HasNoneIn xs a b → HasNoneIn xs b c → HasNoneIn xs a c
joined_none xs a b c x y i from before is =
    elim (cases_lt i b) [
      | inl l ↦ x i from l is
      | inr g ↦ y i g before is
    ]

pub further : (xs : List Bool) (low mid high : ℕ) (r : Option ℕ) → mid ≤ high → HasNoneIn xs mid high
    → MatchOption r (HasNoneIn xs low mid) (IsLastIn xs low mid)
    → MatchOption r (HasNoneIn xs low high) (IsLastIn xs 0 high)
further xs low mid high None le none h = joined_none xs low mid high h none
further xs low mid high (Some y) le none h = let before = h.before in record {
  from = omega arith;
  before = omega arith;
  there = h.there;
  none_after = joined_none xs (y + 1) mid high h.none_after none;
}

pub found_some : (A B : Type 0) (P : ℕ → Type 0) (r : Option ℕ) → is_some r ≡ true → MatchOption r A P → MatchOption r B P
found_some A B P None e h = absurd (false≢true e)
found_some A B P (Some y) e h = h

pub found_none : (A : Type 0) (P : ℕ → Type 0) (r : Option ℕ) → is_some r ≡ false → MatchOption r A P → A
found_none A P None e h = h
found_none A P (Some y) e h = absurd (false≢true (sym e))
