-- The bytes at the front of a list that pass a test, and the bytes after them. Serves `only_word` and `split_digits`.
use Rattle.std.proofs.Common.{◌≡◌, ℕ, ◌&&◌, Bool, true, false, not, List, [], ◌∷◌, ◌++◌, length, take, drop, refl, sym, ◌∙◌, ap, arith, one-add}
use Rattle.control_files.specs.Reading.{BeginsOutside}
use Rattle.std.specs.Prelude.{◌<◌, ◌≤◌, IsTrue, Option, Some, None, cond, nat_lt, unwrap_or}
use Rattle.std.specs.List.{list_all, position, position_or_len}
use Rattle.std.proofs.lemmas.Bool.Decides.{nat_tests}
use Rattle.std.proofs.lemmas.List.Sums.{prefix_len-le-length}
use Rattle.std.proofs.Math.Seq.{take-append_seam, drop-append_seam}

pub and_parts : (a b : Bool) → (a && b) ≡ true → (a ≡ true) × (b ≡ true)
and_parts true b h = (refl, h)
and_parts false b h = cc

-- as many pass as stand before what does not
pub position_or_len-append : (p q : ℕ → Bool) → ((x : ℕ) → not (q x) ≡ p x) → (xs ys : List ℕ) → IsTrue (list_all p xs) → BeginsOutside p ys →
    position_or_len q (xs ++ ys) ≡ length xs
position_or_len-append p q opposite [] [] all outside = refl
position_or_len-append p q opposite [] (y ∷ ys) all outside = rw (opposite y) (rw outside refl)
position_or_len-append p q opposite (x ∷ xs) ys all outside =
    let first : p x ≡ true = (and_parts (p x) (list_all p xs) all).0 in
    let rest : position_or_len q (xs ++ ys) ≡ length xs = position_or_len-append p q opposite xs ys (and_parts (p x) (list_all p xs) all).1 outside in
    rw (opposite x) (rw first (omega (arith, rest)))

-- a list has one front that passes with a rest that does not begin so
pub same_front : (p q : ℕ → Bool) → ((x : ℕ) → not (q x) ≡ p x) → (xs ys us vs : List ℕ) → IsTrue (list_all p xs) → BeginsOutside p ys →
    IsTrue (list_all p us) → BeginsOutside p vs → (xs ++ ys) ≡ (us ++ vs) → (xs ≡ us) × (ys ≡ vs)
same_front p q opposite xs ys us vs xs_pass ys_outside us_pass vs_outside same =
    let size : length xs ≡ length us = sym (position_or_len-append p q opposite xs ys xs_pass ys_outside)
    ∙ (ap (position_or_len q) same ∙ position_or_len-append p q opposite us vs us_pass vs_outside) in
    let front : take (length xs) (xs ++ ys) ≡ take (length us) (us ++ vs) = rw same (ap (λ n. take n (us ++ vs)) size) in
    let rest : drop (length xs) (xs ++ ys) ≡ drop (length us) (us ++ vs) = rw same (ap (λ n. drop n (us ++ vs)) size) in
    (sym (take-append_seam xs ys) ∙ (front ∙ take-append_seam us vs), sym (drop-append_seam xs ys) ∙ (rest ∙ drop-append_seam us vs))

-- where the first that passes stands, or the end
pub unwrap_or-position : (p : ℕ → Bool) (xs : List ℕ) → unwrap_or (position p xs) (length xs) ≡ position_or_len p xs
unwrap_or-position p xs =
    let bound : position_or_len p xs ≤ length xs = prefix_len-le-length (λ x. not (p x)) xs in
    grind (arith, nat_tests)

chosen-Some : (a n i : ℕ) → ◌≡◌ {A = Option ℕ} (cond (nat_lt a n) (Some a) None) (Some i) → (i ≡ a) × (i < n)
chosen-Some a n i h = (grind (arith, nat_tests), grind (arith, nat_tests))

chosen-None : (a n : ℕ) → ◌≡◌ {A = Option ℕ} (cond (nat_lt a n) (Some a) None) None → n ≤ a
chosen-None a n h = grind (arith, nat_tests)

pub position-found : (p : ℕ → Bool) (xs : List ℕ) (i : ℕ) → position p xs ≡ Some i → (i ≡ position_or_len p xs) × (i < length xs)
position-found p xs i h = chosen-Some (position_or_len p xs) (length xs) i h

pub position-none : (p : ℕ → Bool) (xs : List ℕ) → position p xs ≡ None → length xs ≤ position_or_len p xs
position-none p xs h = chosen-None (position_or_len p xs) (length xs) h

front_passes_by : (p q : ℕ → Bool) → ((x : ℕ) → not (q x) ≡ p x) → (x : ℕ) (xs : List ℕ) (b : Bool) → b ≡ p x →
    IsTrue (list_all p (take (position_or_len q xs) xs)) → IsTrue (list_all p (take (position_or_len q (x ∷ xs)) (x ∷ xs)))
front_passes_by p q opposite x xs true h rest = rw (opposite x) (rw (← h) (rw one-add (rw (← h) rest)))
front_passes_by p q opposite x xs false h rest = rw (opposite x) (rw (← h) refl)

-- what stands before the first that fails passes
pub front_passes : (p q : ℕ → Bool) → ((x : ℕ) → not (q x) ≡ p x) → (xs : List ℕ) → IsTrue (list_all p (take (position_or_len q xs) xs))
front_passes p q opposite [] = refl
front_passes p q opposite (x ∷ xs) = front_passes_by p q opposite x xs (p x) refl (front_passes p q opposite xs)

rest_outside_by : (p q : ℕ → Bool) → ((x : ℕ) → not (q x) ≡ p x) → (x : ℕ) (xs : List ℕ) (b : Bool) → b ≡ p x →
    BeginsOutside p (drop (position_or_len q xs) xs) → BeginsOutside p (drop (position_or_len q (x ∷ xs)) (x ∷ xs))
rest_outside_by p q opposite x xs true h rest = rw (opposite x) (rw (← h) (rw one-add rest))
rest_outside_by p q opposite x xs false h rest = rw (opposite x) (rw (← h) (sym h))

-- and the first that fails comes after
pub rest_outside : (p q : ℕ → Bool) → ((x : ℕ) → not (q x) ≡ p x) → (xs : List ℕ) → BeginsOutside p (drop (position_or_len q xs) xs)
rest_outside p q opposite [] = tt
rest_outside p q opposite (x ∷ xs) = rest_outside_by p q opposite x xs (p x) refl (rest_outside p q opposite xs)
