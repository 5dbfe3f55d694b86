-- How many pasts there are of each number.
use Rattle.std.proofs.Common.{[], sym, ◌≡◌, ◌≢◌, ℕ, zero, suc, ◌+◌, ◌<◌, ◌≤◌, List, ◌∷◌, length, refl, ap, ◌∙◌, arith, inl, inr, eq-eqb}
use Rattle.std.specs.Prelude.{◌⊎◌, nat_le}
use Rattle.std.proofs.lemmas.Bool.{cases_Bool, le-leb, leb-false, leb-true, lt-leb, ne_eqb}
use mathlib.Core.Logic.{dite}
use native.Mathlib.Decide.{ℕ_discrete}
use Rattle.step_rules.specs.State.{one_if, sum_to}
use Rattle.step_rules.proofs.Sums.{sum_both, sum_none, sum_only}
use Rattle.boot_words.specs.declared.past.Past.{Past}
use Rattle.boot_words.specs.Rule.{AllOf, of_number, sum_over}

pub is_low : (n m : ℕ) → n ≤ m → one_if (nat_le n m) ≡ 1
is_low n m low = ap one_if (le-leb n m low)

pub is_high : (n m : ℕ) → m < n → one_if (nat_le n m) ≡ 0
is_high n m high = ap one_if (lt-leb n m high)

pub case_le : (n m : ℕ) → (n ≤ m) ⊎ (m < n)
case_le n m = elim (cases_Bool (nat_le n m)) [
  | inl e ↦ inl (leb-true n m e)
  | inr e ↦ inr (leb-false n m e)
]

pub is_own : (p : Past) (q : ℕ) → p.number ≡ q → of_number q p ≡ 1
is_own p q e = ap one_if (eq-eqb p.number q e)

pub is_none : (p : Past) (q : ℕ) → p.number ≢ q → of_number q p ≡ 0
is_none p q ne = ap one_if (ne_eqb p.number q ne)

one_to : (p : Past) (n : ℕ) → p.number < n → sum_to n (λ q. of_number q p) ≡ 1
one_to p n low = sum_only n (λ q. of_number q p) p.number low (λ q below ne. is_none p q (λ e. ne (sym e))) ∙ is_own p p.number refl

-- each past's number is below n
abbrev pub AreBelow : ℕ → List Past → Type 0
AreBelow n ps = AllOf (λ (p : Past). p.number < n) ps

pub count_all : (n : ℕ) (ps : List Past) → AreBelow n ps → sum_to n (λ q. sum_over (of_number q) ps) ≡ length ps
count_all n [] below = sum_none n (λ q. 0) (λ q low. refl)
count_all n (p ∷ ps) below =
    let a = count_all n ps below.1 in
    let b = one_to p n below.0 in
    let c = sum_both n (λ q. of_number q p) (λ q. sum_over (of_number q) ps) in omega (arith, a, b, c)

-- pasts of which none has a number above n
pub all_low : (n : ℕ) (ps : List Past) → ((q : ℕ) → n < q → sum_over (of_number q) ps ≡ 0) → AreBelow (n + 1) ps
all_low n [] none = tt
all_low n (p ∷ ps) none = (
  elim (case_le p.number n) [
    | inl low ↦ omega (arith, low)
    | inr high ↦ absurd (let a = none p.number high in let b = is_own p p.number refl in omega (arith, a, b))
  ],
  all_low n ps (λ q high. let a = none q high in omega (arith, a)),
)

-- if each of n numbers counts at most 1 and all count n together, each counts 1
sum_most : (n : ℕ) (f : ℕ → ℕ) → ((q : ℕ) → q < n → f q ≤ 1) → sum_to n f ≤ n
unfolding sum_to
sum_most zero f few = omega arith
sum_most (suc n) f few =
    let a = sum_most n f (λ q low. few q (omega (arith, low))) in
    let b = few n (omega arith) in omega (arith, a, b)

pub each_one : (n : ℕ) (f : ℕ → ℕ) → ((q : ℕ) → q < n → f q ≤ 1) → sum_to n f ≡ n → (q : ℕ) → q < n → f q ≡ 1
unfolding sum_to
each_one zero f few all q low = absurd (omega (arith, low))
each_one (suc n) f few all q low =
    let less = sum_most n f (λ k below. few k (omega (arith, below))) in
    let last = few n (omega arith) in
    dite (ℕ_discrete q n)
    (λ e. ap f e ∙ (let one : f n ≡ 1 = omega (arith, all, less, last) in one))
    (λ ne. each_one n f (λ k below. few k (omega (arith, below))) (omega (arith, all, less, last)) q (omega (arith, low, ne)))
