-- One piece of a text after another.
use Rattle.std.proofs.Common.{◌≡◌, ◌∙◌, ℕ, List, ◌++◌, Result, Ok, Err, IfOk, ap, append_assoc}

pub behind : {A E : Type 0} (r : Result A E) (old one new a b : List ℕ) → one ≡ old ++ a → IfOk r (λ x. new ≡ one ++ b)
    → IfOk r (λ x. new ≡ old ++ (a ++ b))
behind (Ok x) old one new a b first second = second ∙ ap (λ (l : List ℕ). l ++ b) first ∙ append_assoc old a b
behind (Err e) old one new a b first second = tt
