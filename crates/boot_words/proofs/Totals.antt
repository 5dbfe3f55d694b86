-- How totals over all pasts of all seats change if one seat's pasts do, and if seats are joined.
use Rattle.std.proofs.Common.{◌≡◌, ℕ, zero, suc, ◌+◌, ◌≤◌, List, [], ◌∷◌, ◌++◌, set, ap, sym, ◌∙◌, arith}
use mathlib.Core.Option.{some, some-injective, some-ne-none}
use lib.ListN.{get_elem?}
use Rattle.boot_words.specs.Rule.{sum_over, total_over}

module _ {A : Type 0} where
  sum_append : (f : A → ℕ) (xs ys : List A) → sum_over f (xs ++ ys) ≡ sum_over f xs + sum_over f ys
  sum_append f [] ys = omega arith
  sum_append f (x ∷ xs) ys = omega (arith, sum_append f xs ys)

  sum_one : (f : A → ℕ) (x : A) → sum_over f (x ∷ []) ≡ f x
  sum_one f x = omega arith

  -- what replaces x at i brings its own part in the place of x's
  sum_set : (f : A → ℕ) (xs : List A) (i : ℕ) (x y : A) → get_elem? xs i ≡ some x → sum_over f (set xs i y) + f x ≡ sum_over f xs + f y
  sum_set f [] i x y is = absurd (some-ne-none x (sym is))
  sum_set f (h ∷ xs) zero x y is = let e : f h ≡ f x = ap f (some-injective h x is) in omega arith
  sum_set f (h ∷ xs) (suc i) x y is = omega (arith, sum_set f xs i x y is)

  sum_member : (f : A → ℕ) (xs : List A) (i : ℕ) (x : A) → get_elem? xs i ≡ some x → f x ≤ sum_over f xs
  sum_member f [] i x is = absurd (some-ne-none x (sym is))
  sum_member f (h ∷ xs) zero x is = let e : f h ≡ f x = ap f (some-injective h x is) in omega arith
  sum_member f (h ∷ xs) (suc i) x is = omega (arith, sum_member f xs i x is)

  sum_same : (f g : A → ℕ) (xs : List A) → ((x : A) → f x ≡ g x) → sum_over f xs ≡ sum_over g xs
  sum_same f g [] same = omega arith
  sum_same f g (x ∷ xs) same = omega (arith, same x, sum_same f g xs same)

  sum_plus : (f g : A → ℕ) (xs : List A) → sum_over (λ x. f x + g x) xs ≡ sum_over f xs + sum_over g xs
  sum_plus f g [] = omega arith
  sum_plus f g (x ∷ xs) = omega (arith, sum_plus f g xs)

module _ {V : Type 0} where
  -- one seat's pasts change
  pub total_set : (f : V → ℕ) (seats : List (List V)) (id : ℕ) (old new : List V) → get_elem? seats id ≡ some old
      → total_over f (set seats id new) + sum_over f old ≡ total_over f seats + sum_over f new
  total_set f seats id old new is = sum_set (λ pasts. sum_over f pasts) seats id old new is

  -- a seat's pasts are a part of all
  pub total_member : (f : V → ℕ) (seats : List (List V)) (id : ℕ) (pasts : List V) → get_elem? seats id ≡ some pasts → sum_over f pasts ≤ total_over f seats
  total_member f seats id pasts is = sum_member (λ pasts. sum_over f pasts) seats id pasts is

  -- a new seat
  pub total_more : (f : V → ℕ) (seats : List (List V)) (pasts : List V) → total_over f (seats ++ pasts ∷ []) ≡ total_over f seats + sum_over f pasts
  total_more f seats pasts = sum_append (λ pasts. sum_over f pasts) seats (pasts ∷ [])
      ∙ ap (λ (n : ℕ). total_over f seats + n) (sum_one (λ pasts. sum_over f pasts) pasts)

  pub total_plus : (f g : V → ℕ) (seats : List (List V)) → total_over (λ v. f v + g v) seats ≡ total_over f seats + total_over g seats
  total_plus f g seats = sum_same (λ pasts. sum_over (λ v. f v + g v) pasts) (λ pasts. sum_over f pasts + sum_over g pasts) seats (λ pasts. sum_plus f g pasts)
      ∙ sum_plus (λ pasts. sum_over f pasts) (λ pasts. sum_over g pasts) seats

  -- a seat takes in the pasts of another
  pub total_join : (f : V → ℕ) (seats : List (List V)) (id other : ℕ) (pasts taken : List V) → get_elem? seats id ≡ some pasts
      → get_elem? (set seats id (pasts ++ taken)) other ≡ some taken
      → total_over f (set (set seats id (pasts ++ taken)) other []) ≡ total_over f seats
  total_join f seats id other pasts taken is at = omega (
    arith,
    total_set f seats id pasts (pasts ++ taken) is,
    total_set f (set seats id (pasts ++ taken)) other taken [] at,
    sum_append f pasts taken,
  )
