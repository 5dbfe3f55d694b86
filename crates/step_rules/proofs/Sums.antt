-- Sums of the first values of a function.
use Rattle.std.proofs.Common.{◌≡◌, ℕ, ◌+◌, ◌<◌, ◌≤◌, Bool, true, false, cond, refl, sym, ◌∙◌, ap, arith, inl, inr, zero, suc}
use Rattle.std.proofs.lemmas.Bool.{cases_eq, and_parts}
use Rattle.step_rules.specs.State.{sum_to, all_to, with_at}
use Rattle.step_rules.proofs.Basics.{at_same, at_other}

pub sum_same : (n : ℕ) (g h : ℕ → ℕ) → ((i : ℕ) → i < n → g i ≡ h i) → sum_to n g ≡ sum_to n h
unfolding sum_to
sum_same zero g h each = refl
sum_same (suc n) g h each = let a = sum_same n g h (λ i below. each i (omega arith)) in let b = each n (omega arith) in omega arith

pub sum_none : (n : ℕ) (h : ℕ → ℕ) → ((i : ℕ) → i < n → h i ≡ 0) → sum_to n h ≡ 0
unfolding sum_to
sum_none zero h each = refl
sum_none (suc n) h each = let a = sum_none n h (λ i below. each i (omega arith)) in let b = each n (omega arith) in omega arith

-- a choice of two that are 0
pub none_if : (b : Bool) (n : ℕ) → n ≡ 0 → cond b n 0 ≡ 0
none_if true n e = e
none_if false n e = refl

pub sum_both : (n : ℕ) (g h : ℕ → ℕ) → sum_to n (λ i. g i + h i) ≡ sum_to n g + sum_to n h
unfolding sum_to
sum_both zero g h = refl
sum_both (suc n) g h = let a = sum_both n g h in omega arith

pub sum_part : (n : ℕ) (h : ℕ → ℕ) (i : ℕ) → i < n → h i ≤ sum_to n h
unfolding sum_to
sum_part zero h i below = absurd (omega arith)
sum_part (suc n) h i below =
    elim (cases_eq i n) [
      | inl e ↦ let a : h i ≡ h n = ap h e in omega arith
      | inr ne ↦ let a = sum_part n h i (omega arith) in omega arith
    ]

-- a sum over pairs may be taken either way round
pub sum_swap : (n m : ℕ) (h : ℕ → ℕ → ℕ) → sum_to n (λ i. sum_to m (h i)) ≡ sum_to m (λ j. sum_to n (λ i. h i j))
unfolding sum_to
sum_swap zero m h = sym (sum_none m (λ j. 0) (λ j below. refl))
sum_swap (suc n) m h =
    ap (λ x. x + sum_to m (h n)) (sum_swap n m h) ∙ sym (sum_both m (λ j. sum_to n (λ i. h i j)) (h n))

-- one value of a sum is another one
pub sum_change : (n : ℕ) (h : ℕ → ℕ) (k x : ℕ) → k < n → sum_to n (with_at h k x) + h k ≡ sum_to n h + x
unfolding sum_to
sum_change zero h k x below = absurd (omega arith)
sum_change (suc n) h k x below =
    elim (cases_eq k n) [
      | inl e ↦
          let a : sum_to n (with_at h k x) ≡ sum_to n h = sum_same n (with_at h k x) h (λ i b. at_other h k x i (λ z. absurd (omega arith))) in
          let b : with_at h k x n ≡ x = ap (with_at h k x) (sym e) ∙ at_same h k x in
          let c : h k ≡ h n = ap h e in
          omega arith
      | inr ne ↦
          let a = sum_change n h k x (omega arith) in
          let b : with_at h k x n ≡ h n = at_other h k x n (λ e. ne (sym e)) in
          omega arith
    ]

-- a sum all of which stands at one number
pub sum_alone : (n : ℕ) (h : ℕ → ℕ) (k : ℕ) → k < n → sum_to n h ≤ h k → (i : ℕ) → i < n → (i ≡ k → ⊥) → h i ≡ 0
sum_alone n h k below all i here ne =
    let a = sum_change n h k 0 below in
    let b = sum_part n (with_at h k 0) i here in
    let c = at_other h k 0 i ne in
    omega arith

pub sum_only : (n : ℕ) (h : ℕ → ℕ) (k : ℕ) → k < n → ((i : ℕ) → i < n → (i ≡ k → ⊥) → h i ≡ 0) → sum_to n h ≡ h k
sum_only n h k below others =
    let a = sum_change n h k 0 below in
    let b : sum_to n (with_at h k 0) ≡ 0 =
    sum_none n (with_at h k 0) (λ i here. elim (cases_eq i k) [
      | inl e ↦ ap (with_at h k 0) e ∙ at_same h k 0
      | inr ne ↦ at_other h k 0 i ne
          ∙ others i here ne
    ]) in
    omega arith

pub all_at : (n : ℕ) (test : ℕ → Bool) → all_to n test ≡ true → (i : ℕ) → i < n → test i ≡ true
unfolding all_to
all_at zero test all i below = absurd (omega arith)
all_at (suc n) test all i below =
    let both = and_parts (all_to n test) (test n) all in
    elim (cases_eq i n) [
      | inl e ↦ ap test e ∙ both.1
      | inr ne ↦ all_at n test both.0 i (omega arith)
    ]

pub all_same : (n : ℕ) (a b : ℕ → Bool) → ((i : ℕ) → a i ≡ b i) → all_to n a ≡ all_to n b
all_same n a b each = ap (all_to n) (λ i. λ m. each m i)

pub all_each : (n : ℕ) (test : ℕ → Bool) → ((i : ℕ) → i < n → test i ≡ true) → all_to n test ≡ true
unfolding all_to
all_each zero test each = refl
all_each (suc n) test each = rw (all_each n test (λ i below. each i (omega arith)), each n (omega arith)) refl
