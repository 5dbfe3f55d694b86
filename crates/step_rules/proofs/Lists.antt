-- How often a frame stands in a list.
use Rattle.std.proofs.Common.{◌≡◌, ℕ, ◌+◌, ◌<◌, ◌≤◌, ◌==◌, Bool, true, false, List, [], ◌∷◌, ◌++◌, length, get_or, refl, sym, ◌∙◌, ap, arith, inl, inr, eq-eqb, zero, suc}
use Rattle.std.proofs.lemmas.Bool.{cases_eq, cases_lt, ne_eqb}
use Rattle.std.specs.Prelude.{◌⊎◌, remove}
use Rattle.std.proofs.lemmas.List.{length-append}
use Rattle.step_rules.specs.State.{one_if, without, with_last, front_of, sum_to, times}
use Rattle.step_rules.proofs.Sums.{sum_none, sum_both, sum_only}

pub one_if_true : (b : Bool) → 1 ≤ one_if b → b ≡ true
one_if_true true h = refl
one_if_true false h = absurd (omega arith)

pub times_same : (f : ℕ) → one_if (f == f) ≡ 1
times_same f = ap one_if (eq-eqb f f refl)

pub times_other : (x f : ℕ) → (x ≡ f → ⊥) → one_if (x == f) ≡ 0
times_other x f ne = ap one_if (ne_eqb x f ne)

pub times_append : (f : ℕ) (xs ys : List ℕ) → times f (xs ++ ys) ≡ times f xs + times f ys
times_append f [] ys = omega arith
times_append f (x ∷ xs) ys = let a = times_append f xs ys in omega arith

pub times_last : (f x : ℕ) (xs : List ℕ) → times f (with_last xs x) ≡ times f xs + one_if (x == f)
times_last f x xs = let a = times_append f xs (x ∷ []) in omega arith

pub length_last : (x : ℕ) (xs : List ℕ) → length (with_last xs x) ≡ length xs + 1
length_last x xs = length-append xs (x ∷ [])

pub times_without : (f : ℕ) (xs : List ℕ) → times f (without f xs) ≡ 0
times_without f [] = refl
times_without f (x ∷ xs) =
    elim (cases_eq x f) [
      | inl e ↦ rw (eq-eqb x f e) (times_without f xs)
      | inr ne ↦ rw (ne_eqb x f ne, ne_eqb x f ne) (let a = times_without f xs in omega arith)
    ]

pub times_without_other : (m f : ℕ) (xs : List ℕ) → (m ≡ f → ⊥) → times m (without f xs) ≡ times m xs
times_without_other m f [] ne = refl
times_without_other m f (x ∷ xs) ne =
    elim (cases_eq x f) [
      | inl e ↦
          let a = times_without_other m f xs ne in
          let b : one_if (x == m) ≡ 0 = times_other x m (λ z. ne (sym z ∙ e)) in
          rw (eq-eqb x f e) (omega arith)
      | inr other ↦ rw (ne_eqb x f other) (let a = times_without_other m f xs ne in omega arith)
    ]

pub length_without : (f : ℕ) (xs : List ℕ) → length (without f xs) + times f xs ≡ length xs
length_without f [] = refl
length_without f (x ∷ xs) =
    elim (cases_eq x f) [
      | inl e ↦ rw (eq-eqb x f e) (let a = length_without f xs in omega arith)
      | inr ne ↦ rw (ne_eqb x f ne) (let a = length_without f xs in omega arith)
    ]

-- a list that hasn't the frame stays without it
pub without_none : (f : ℕ) (xs : List ℕ) → times f xs ≡ 0 → without f xs ≡ xs
without_none f [] none = refl
without_none f (x ∷ xs) none =
    elim (cases_eq x f) [
      | inl e ↦ absurd (let a = ap one_if (eq-eqb x f e) in omega arith)
      | inr ne ↦ rw (ne_eqb x f ne) (ap (λ (l : List ℕ). x ∷ l) (without_none f xs (omega arith)))
    ]

-- only the front frame is gone
pub without_front : (f : ℕ) (xs rest : List ℕ) → xs ≡ f ∷ rest → times f rest ≡ 0 → without f xs ≡ rest
without_front f xs rest front none =
    let here : without f (f ∷ rest) ≡ rest = rw (eq-eqb f f refl) (without_none f rest none) in ap (without f) front ∙ here

pub stands_at : (f : ℕ) (xs : List ℕ) (i : ℕ) → i < length xs → get_or xs i 0 ≡ f → 1 ≤ times f xs
stands_at f [] i inside at = absurd (omega arith)
stands_at f (x ∷ xs) zero inside at = let a = ap one_if (eq-eqb x f at) in omega arith
stands_at f (x ∷ xs) (suc i) inside at = let a = stands_at f xs i (omega arith) at in omega arith

-- a frame that is in the list once is removed
pub removed_once : (f : ℕ) (xs : List ℕ) (i : ℕ) → i < length xs → get_or xs i 0 ≡ f → times f xs ≤ 1 → remove xs i ≡ without f xs
removed_once f [] i inside at once = absurd (omega arith)
removed_once f (x ∷ xs) zero inside at once =
    let a = ap one_if (eq-eqb x f at) in sym (without_front f (x ∷ xs) xs (ap (λ (y : ℕ). y ∷ xs) at) (omega arith))
removed_once f (x ∷ xs) (suc i) inside at once =
    let some = stands_at f xs i (omega arith) at in
    elim (cases_eq x f) [
      | inl e ↦ absurd (let a = ap one_if (eq-eqb x f e) in omega arith)
      | inr ne ↦ rw (ne_eqb x f ne) (ap (λ (l : List ℕ). x ∷ l) (removed_once f xs i (omega arith) at (omega arith)))
    ]

pub front_stands : (xs : List ℕ) → 1 ≤ length xs → 1 ≤ times (front_of xs) xs
front_stands [] h = absurd (omega arith)
front_stands (x ∷ xs) h = let a = times_same x in omega arith

-- a list whose frames are all below n, counted by frame
pub count_length : (n : ℕ) (xs : List ℕ) → ((f : ℕ) → n ≤ f → times f xs ≡ 0) → sum_to n (λ f. times f xs) ≡ length xs
count_length n [] none = sum_none n (λ f. 0) (λ f b. refl)
count_length n (x ∷ xs) none =
    let rest = count_length n xs (λ f h. let a = none f h in omega arith) in
    let a = sum_both n (λ f. one_if (x == f)) (λ f. times f xs) in
    let inside : x < n = elim (cases_below x) [ inl h ↦ h | inr h ↦ absurd (let b = none x h in let c = times_same x in omega arith) ] in
    let b : sum_to n (λ f. one_if (x == f)) ≡ one_if (x == x) = sum_only n (λ f. one_if (x == f)) x inside (λ i h ne. times_other x i (λ e. ne (sym e))) in
    let c = times_same x in
    omega arith
  where
    cases_below : (x : ℕ) → (x < n) ⊎ (n ≤ x)
    cases_below x = cases_lt x n
