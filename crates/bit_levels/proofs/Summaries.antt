-- A set and its summary: for each call of `BitLevels`.
use Rattle.std.proofs.Common.{◌≡◌, ◌≢◌, ℕ, ◌+◌, ◌*◌, ◌/◌, ◌<◌, ◌≤◌, ◌↔◌, ◌⊎◌, Bool, true, false, List, Option, Some, None, length}
use Rattle.std.proofs.Common.{get_or, set, replicate, refl, sym, ◌∙◌, inl, inr, arith, length-set}
use Rattle.std.specs.Option.{MatchOption}
use Rattle.std.proofs.lemmas.List.{get_or_past, get_or-set_same, get_or-set_other, get_or-replicate, length-replicate}
use Rattle.std.proofs.lemmas.Bool.{cases_lt, cases_eq, false≢true}
use Rattle.bit_levels.specs.Sets.{IsIn, HasNoneIn, HasSomeIn, IsLastIn, IsSummaryOf}
use Rattle.bit_levels.proofs.Words.{not_some, joined_none}

none_in_empty : (n i : ℕ) → IsIn (replicate n false) i → ⊥
none_in_empty n i is =
    elim (cases_lt i n) [
      | inl l ↦ false≢true (sym (get_or-replicate n i false false l) ∙ is)
      | inr past ↦ false≢true (sym (get_or_past (replicate n false) i false (omega (arith, length-replicate {A = Bool} n false))) ∙ is)
    ]

pub empty_summary : (n m : ℕ) (lower upper : List Bool) → lower ≡ replicate n false → upper ≡ replicate m false → m ≡ n / 64 + 1 → IsSummaryOf lower upper
empty_summary n m lower upper el eu e = rw (el, eu) record {
  count = rw (length-replicate n false) (length-replicate m false ∙ e);
  marks = λ w. ((λ is. absurd (none_in_empty m w is)), (λ some. absurd (none_in_empty n some.number some.there)));
}

apart_of : (i j low high : ℕ) → (i < low) ⊎ (high ≤ i) → low ≤ j → j < high → j ≡ i → ⊥
apart_of i j low high (inl l) from before e = absurd (omega arith)
apart_of i j low high (inr l) from before e = absurd (omega arith)

moved_some : (lower : List Bool) (i : ℕ) (v : Bool) (low high : ℕ) → (i < low) ⊎ (high ≤ i) → HasSomeIn lower low high ↔ HasSomeIn (set lower i v) low high
moved_some lower i v low high out = (
  λ some. record {
    number = some.number;
    from = some.from;
    before = some.before;
    there = get_or-set_other lower i some.number v false (apart_of i some.number low high out some.from some.before) ∙ some.there;
  },
  λ some. record {
    number = some.number;
    from = some.from;
    before = some.before;
    there = sym (get_or-set_other lower i some.number v false (apart_of i some.number low high out some.from some.before)) ∙ some.there;
  },
)

outside : (w word i : ℕ) → w ≢ word → word ≡ i / 64 → (i < w * 64) ⊎ (w * 64 + 64 ≤ i)
outside w word i ne e =
    elim (cases_lt i (w * 64)) [
      | inl l ↦ inl l
      | inr g ↦ inr (omega (arith, ne, e))
    ]

-- one number set, and its word's mark set by what the word then has
pub summary_set : (lower upper : List Bool) → IsSummaryOf lower upper → (i word : ℕ) (v mark : Bool) → word ≡ i / 64 → i < length lower
    → ((mark ≡ true) ↔ HasSomeIn (set lower i v) (word * 64) (word * 64 + 64)) → IsSummaryOf (set lower i v) (set upper word mark)
summary_set lower upper h i word v mark e l is =
    let count = h.count in
    let here : get_or (set upper word mark) word false ≡ mark = get_or-set_same upper word mark false (omega (arith, count, e)) in
    record {
      count = length-set upper word mark ∙ count ∙ sym (rw (length-set lower i v) refl);
      marks = λ w. elim (cases_eq w word) [
        | inl same ↦ rw (same, here) is
        | inr ne ↦
            let m = h.marks w in
            let moved = moved_some lower i v (w * 64) (w * 64 + 64) (outside w word i ne e) in
            rw (get_or-set_other upper word w mark false ne) ((λ t. moved.0 (m.0 t)), (λ s. m.1 (moved.1 s)))
      ];
    }

-- ---- the last member below a number

-- no member in the words up to this one
none_in_words : (lower upper : List Bool) → IsSummaryOf lower upper → (a b : ℕ) → HasNoneIn upper a b → HasNoneIn lower (a * 64) (b * 64)
none_in_words lower upper h a b none i from before is =
    none (i / 64) (omega arith) (omega arith) ((h.marks (i / 64)).1 record { number = i; from = omega arith; before = omega arith; there = is })

pub none_below : (lower upper : List Bool) → IsSummaryOf lower upper → (n word : ℕ) → word ≡ n / 64
    → HasNoneIn lower (word * 64) n → HasNoneIn upper 0 word → HasNoneIn lower 0 n
none_below lower upper h n word e near none = joined_none lower 0 (word * 64) n (none_in_words lower upper h 0 word none) near

pub last_below_is : (lower upper : List Bool) → IsSummaryOf lower upper → (n word w : ℕ) → word ≡ n / 64
    → HasNoneIn lower (word * 64) n → IsLastIn upper 0 word w → (r : Option ℕ)
    → MatchOption r (HasNoneIn lower (w * 64) (w * 64 + 64)) (IsLastIn lower (w * 64) (w * 64 + 64)) → MatchOption r (HasNoneIn lower 0 n) (IsLastIn lower 0 n)
last_below_is lower upper h n word w e near last None none = absurd (not_some lower (w * 64) (w * 64 + 64) none ((h.marks w).0 last.there))
last_below_is lower upper h n word w e near last (Some y) is =
    let before = last.before in
    let later : HasNoneIn lower (w * 64 + 64) n = joined_none lower (w * 64 + 64) (word * 64) n
    (λ i from up. none_in_words lower upper h (w + 1) word last.none_after i (omega arith) up) near in
    let b = is.before in
    record {
      from = omega arith;
      before = omega (arith, before, b, e);
      there = is.there;
      none_after = joined_none lower (y + 1) (w * 64 + 64) n is.none_after later;
    }
