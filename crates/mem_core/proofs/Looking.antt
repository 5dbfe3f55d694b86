-- What a list shows at a number, within it and past its end.
use Rattle.std.proofs.Common.{◌≡◌, ℕ, ◌<◌, ◌≤◌, Some, List, zero, suc, [], ◌∷◌, length, get_or, refl, sym, ◌∙◌, ap, arith}
use Rattle.std.specs.List.{slice_get}
use Rattle.std.proofs.lemmas.Option.{slice_get-get_or}

pub past_default : {X : Type 0} (xs : List X) (i : ℕ) (d : X) → length xs ≤ i → get_or xs i d ≡ d
past_default [] i d h = refl
past_default (x ∷ xs) zero d h = absurd (omega arith)
past_default (x ∷ xs) (suc i) d h = past_default xs i d (omega arith)

-- what was read at a number within the list stands there
pub got : {X : Type 0} (xs : List X) (i : ℕ) (x : X) → i < length xs → x ≡ get_or xs i x → slice_get xs i ≡ Some x
got xs i x below e = slice_get-get_or xs i x below ∙ ap Some (sym e)
