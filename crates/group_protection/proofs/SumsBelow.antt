-- Sums over the numbers below a bound. Serves the shares of a reclaim and crates above.
use Rattle.std.proofs.Common.{inl, inr, ltb, ◌≡◌, ℕ, zero, suc, ◌+◌, ◌*◌, ◌<◌, ◌≤◌, Bool, true, false, cond, refl, sym, ap, ◌∙◌, add-one, arith}
use mir.Val.{bool_byte}
use Rattle.std.proofs.lemmas.Bool.{cases_lt, lt-ltb}
use Rattle.std.proofs.lemmas.List.FromFn.{sum_by-map-range_with_len_more}
use Rattle.group_protection.specs.Shares.{sum_below}

pub sum_below_none : (f : ℕ → ℕ) → sum_below 0 f ≡ 0
unfolding sum_below
sum_below_none f = refl

pub sum_below_more : (n : ℕ) (f : ℕ → ℕ) → sum_below (n + 1) f ≡ sum_below n f + f n
unfolding sum_below
sum_below_more n f = sum_by-map-range_with_len_more (λ x. x) f 0 n n (omega arith)

pub sum_below_suc : (n : ℕ) (f : ℕ → ℕ) → sum_below (suc n) f ≡ sum_below n f + f n
sum_below_suc n f = ap (λ m. sum_below m f) (sym (add-one n)) ∙ sum_below_more n f

pub sum_below_same : (n : ℕ) (f h : ℕ → ℕ) → ((i : ℕ) → i < n → f i ≡ h i) → sum_below n f ≡ sum_below n h
sum_below_same zero f h same = sum_below_none f ∙ sym (sum_below_none h)
sum_below_same (suc n) f h same =
    let one = sum_below_suc n f in
    let two = sum_below_suc n h in
    let below = sum_below_same n f h (λ i less. same i (omega (arith, less))) in
    let last = same n (omega arith) in
    omega (arith, one, two, below, last)

pub sum_below_le : (n : ℕ) (f h : ℕ → ℕ) → ((i : ℕ) → i < n → f i ≤ h i) → sum_below n f ≤ sum_below n h
sum_below_le zero f h less = let one = sum_below_none f in omega (arith, one)
sum_below_le (suc n) f h less =
    let one = sum_below_suc n f in
    let two = sum_below_suc n h in
    let below = sum_below_le n f h (λ i within. less i (omega (arith, within))) in
    let last = less n (omega arith) in
    omega (arith, one, two, below, last)

pub sum_below_plus : (n : ℕ) (f h : ℕ → ℕ) → sum_below n (λ i. f i + h i) ≡ sum_below n f + sum_below n h
sum_below_plus zero f h =
    let one = sum_below_none f in
    let two = sum_below_none h in
    let both = sum_below_none (λ i. f i + h i) in
    omega (arith, one, two, both)
sum_below_plus (suc n) f h =
    let one = sum_below_suc n f in
    let two = sum_below_suc n h in
    let both = sum_below_suc n (λ i. f i + h i) in
    let below = sum_below_plus n f h in
    omega (arith, one, two, both, below)

-- the division of each number's product with `shared`, summed
pub sum_below_divided : (n shared total : ℕ) (f whole rest : ℕ → ℕ) → ((i : ℕ) → whole i * total + rest i ≡ shared * f i)
    → sum_below n whole * total + sum_below n rest ≡ shared * sum_below n f
sum_below_divided zero shared total f whole rest each =
    let one = sum_below_none f in
    let two = sum_below_none whole in
    let three = sum_below_none rest in
    rw (one, two, three) (omega arith)
sum_below_divided (suc n) shared total f whole rest each =
    let one = sum_below_suc n f in
    let two = sum_below_suc n whole in
    let three = sum_below_suc n rest in
    let below = sum_below_divided n shared total f whole rest each in
    let last = each n in
    rw (one, two, three) (omega (arith, below, last))

-- how many numbers below the bound pass the test
abbrev pub count_below : (n : ℕ) → (test : ℕ → Bool) → ℕ
count_below n test = sum_below n (λ i. cond (test i) 1 0)

pub byte_is : (b : Bool) → bool_byte b ≡ cond b 1 0
byte_is true = refl
byte_is false = refl

pub counts_one : (b : Bool) → b ≡ true → cond {A = ℕ} b 1 0 ≡ 1
counts_one b is = ap (λ (x : Bool). cond {A = ℕ} x 1 0) is

pub counts_none : (b : Bool) → b ≡ false → cond {A = ℕ} b 1 0 ≡ 0
counts_none b is = ap (λ (x : Bool). cond {A = ℕ} x 1 0) is

pub one_at_most : (b : Bool) → cond b 1 0 ≤ 1
one_at_most true = omega arith
one_at_most false = omega arith

pub count_below-le : (n : ℕ) (test : ℕ → Bool) → count_below n test ≤ n
count_below-le zero test = let none = sum_below_none (λ i. cond (test i) 1 0) in omega (arith, none)
count_below-le (suc n) test =
    let more = sum_below_suc n (λ i. cond (test i) 1 0) in
    let below = count_below-le n test in
    let one = one_at_most (test n) in
    omega (arith, more, below, one)

-- what a number adds to a count, if it passes the second test whenever it passes the first
passes : (a b : Bool) → (a ≡ true → b ≡ true) → cond a 1 0 ≤ cond b 1 0
passes false b so = omega arith
passes true b so = rw (so refl) (omega arith)

pub count_below-le_count_below : (n : ℕ) (p q : ℕ → Bool) → ((i : ℕ) → i < n → p i ≡ true → q i ≡ true) → count_below n p ≤ count_below n q
count_below-le_count_below n p q so = sum_below_le n (λ i. cond (p i) 1 0) (λ i. cond (q i) 1 0) (λ i within. passes (p i) (q i) (so i within))

pub count_below-lt_count_below : (n : ℕ) (p q : ℕ → Bool) → ((i : ℕ) → i < n → p i ≡ true → q i ≡ true) → (x : ℕ) → x < n → p x ≡ false → q x ≡ true
    → count_below n p < count_below n q
count_below-lt_count_below zero p q so x within out into = absurd (omega (arith, within))
count_below-lt_count_below (suc n) p q so x within out into =
    let one = sum_below_suc n (λ i. cond (p i) 1 0) in
    let two = sum_below_suc n (λ i. cond (q i) 1 0) in
    elim (cases_lt x n) [
      | inl below ↦
          let rest = count_below-lt_count_below n p q (λ i low. so i (omega (arith, low))) x below out into in
          let last = passes (p n) (q n) (so n (omega arith)) in
          omega (arith, one, two, rest, last)
      | inr above ↦
          let at : x ≡ n = omega (arith, within, above) in
          let rest = count_below-le_count_below n p q (λ i low. so i (omega (arith, low))) in
          let none = counts_none (p n) (ap p (sym at) ∙ out) in
          let last = counts_one (q n) (ap q (sym at) ∙ into) in
          omega (arith, one, two, rest, none, last)
    ]

-- a sum of terms of at most m is at most m for each term that isn't 0
pub sum_below-le_count_below : (n m : ℕ) (f : ℕ → ℕ) → ((i : ℕ) → i < n → f i ≤ m) → sum_below n f ≤ count_below n (λ i. ltb 0 (f i)) * m
sum_below-le_count_below zero m f few =
    let none = sum_below_none f in
    omega (arith, none)
sum_below-le_count_below (suc n) m f few =
    let one = sum_below_suc n f in
    let two = sum_below_suc n (λ i. cond (ltb 0 (f i)) 1 0) in
    let rest = sum_below-le_count_below n m f (λ i low. few i (omega (arith, low))) in
    let last = term (f n) (few n (omega arith)) in
    rw (one, two) (omega (arith, rest, last))
  where
    term : (x : ℕ) → x ≤ m → x ≤ cond (ltb 0 x) 1 0 * m
    term x low = elim (cases_lt 0 x) [
      | inl some ↦ rw (counts_one (ltb 0 x) (lt-ltb 0 x some)) (omega (arith, low))
      | inr none ↦ omega (arith, none)
    ]
