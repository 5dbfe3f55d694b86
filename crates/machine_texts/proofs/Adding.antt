-- What two additions to a text add. Serves `write_zone`, `write_reclaimed`, `write_left_out` and
-- `push_lent`.
use Rattle.std.proofs.Common.{◌≡◌, ◌++◌, ◌∙◌, sym, List, ℕ, Result, Ok, Err, IfOk, cond, is_ok, ap, append_assoc}

-- the last addition, which may fail, after what was added before
pub then_added : {T E : Type 0} (r : Result T E) (before mid after said more : List ℕ) → mid ≡ before ++ said
    → after ≡ cond (is_ok r) (mid ++ more) mid → IfOk r (λ _. after ≡ before ++ (said ++ more))
then_added (Ok x) before mid after said more first is = is ∙ (ap (λ (l : List ℕ). l ++ more) first ∙ append_assoc before said more)
then_added (Err e) before mid after said more first is = tt

-- two additions, the second of two parts
pub both_added : (before mid after said one two : List ℕ) → mid ≡ before ++ said → after ≡ mid ++ (one ++ two)
    → after ≡ before ++ (said ++ one ++ two)
both_added before mid after said one two first is =
    is ∙ (ap (λ (l : List ℕ). l ++ (one ++ two)) first ∙ (append_assoc before said (one ++ two)
    ∙ ap (λ (l : List ℕ). before ++ l) (sym (append_assoc said one two))))
