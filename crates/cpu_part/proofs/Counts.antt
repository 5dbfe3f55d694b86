-- How often a frame stands in a list that was parted, and what is left of a list that shrank.
use Rattle.std.proofs.Common.{◌≡◌, ℕ, ◌+◌, ◌<◌, ◌==◌, List, [], ◌∷◌, length, get_or, sym, refl, ap, ◌∙◌, subst, arith}
use Rattle.std.proofs.lemmas.List.Sums.{sum_by-cons}
use Rattle.std.proofs.lemmas.List.{get_or_default}
use Rattle.std.proofs.lemmas.List.Sorted.{length_permutation, sum_by-IsPermutation, IsPermutation-swap_remove}
use Rattle.std.specs.Prelude.{remove, sum_by, IsPermutation}
use Rattle.std.specs.List.{swap_remove}
use Rattle.step_rules.specs.State.{one_if, times}

times_sum : (g : ℕ) (xs : List ℕ) → times g xs ≡ sum_by (λ x. one_if (x == g)) xs
times_sum g [] = refl
times_sum g (x ∷ xs) = ap (λ n. one_if (x == g) + n) (times_sum g xs) ∙ sym (sum_by-cons (λ y. one_if (y == g)) x xs)

pub times_parted : (g f : ℕ) (xs ys : List ℕ) → IsPermutation xs (f ∷ ys) → times g xs ≡ one_if (f == g) + times g ys
times_parted g f xs ys same =
    times_sum g xs ∙ sym (sum_by-IsPermutation (λ x. one_if (x == g)) xs (f ∷ ys) same) ∙ sym (times_sum g (f ∷ ys))

-- what is left where the entry at the place of f went
pub parted_at : (f i x : ℕ) (xs s ys : List ℕ) → s ≡ xs → i < length s → get_or s i 0 ≡ f → x ≡ get_or xs i x → ys ≡ swap_remove xs i x
    → IsPermutation xs (f ∷ ys)
parted_at f i x xs s ys same inside is value left =
    let within : i < length xs = subst (λ (l : List ℕ). i < length l) same inside in
    let e : x ≡ f = value ∙ get_or_default xs i x 0 within ∙ ap (λ (l : List ℕ). get_or l i 0) (sym same) ∙ is in
    subst (λ (p : ℕ × List ℕ). IsPermutation xs (p.0 ∷ p.1)) (λ j. (e j, sym left j)) (IsPermutation-swap_remove xs i x within value)

-- the front of a list that was removed
pub front_removed : (x : ℕ) (xs rest : List ℕ) → 0 < length xs → x ≡ get_or xs 0 x → rest ≡ remove xs 0 → xs ≡ x ∷ rest
front_removed x [] rest some is left = absurd (omega arith)
front_removed x (y ∷ ys) rest some is left = λ i. sym is i ∷ sym left i

pub one_shorter : (f : ℕ) (xs ys : List ℕ) → IsPermutation xs (f ∷ ys) → length xs ≡ length ys + 1
one_shorter f xs ys same = let e = length_permutation xs (f ∷ ys) same in omega (arith, e)
