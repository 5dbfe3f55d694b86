-- Facts that hold of each element of a list.
use Rattle.std.proofs.Common.{[], ◌≡◌, ℕ, zero, suc, List, ◌∷◌, ◌++◌, set, sym, subst}
use mathlib.Core.Option.{some, some-injective, some-ne-none}
use lib.ListN.{get_elem?}
use Rattle.boot_words.specs.Rule.{AllOf}

pub all_at : {A : Type 0} (P : A → Type 0) (xs : List A) (i : ℕ) (x : A) → get_elem? xs i ≡ some x → AllOf P xs → P x
all_at P [] i x at all = absurd (some-ne-none x (sym at))
all_at P (y ∷ ys) zero x at all = subst P (some-injective y x at) all.0
all_at P (y ∷ ys) (suc i) x at all = all_at P ys i x at all.1

pub all_set : {A : Type 0} (P : A → Type 0) (xs : List A) (i : ℕ) (x : A) → P x → AllOf P xs → AllOf P (set xs i x)
all_set P [] i x h all = tt
all_set P (y ∷ ys) zero x h all = (h, all.1)
all_set P (y ∷ ys) (suc i) x h all = (all.0, all_set P ys i x h all.1)

pub all_append : {A : Type 0} (P : A → Type 0) (xs ys : List A) → AllOf P xs → AllOf P ys → AllOf P (xs ++ ys)
all_append P [] ys a b = b
all_append P (x ∷ xs) ys a b = (a.0, all_append P xs ys a.1 b)
