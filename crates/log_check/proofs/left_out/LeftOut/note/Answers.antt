-- Serves the contract of `note`: the step is kept, if there are fewer than 1,000.
use Rattle.std.proofs.Common.{◌≡◌, ◌∙◌, ◌+◌, ◌++◌, ◌∷◌, [], List, ap, length-append, refl, suc, sym, take, zero, ℕ}
use Rattle.log_check.specs.declared.verdict.IllegalStep.{IllegalStep}
use Rattle.log_check.proofs.left_out.LeftOut.note.Goals as goal

take_twice : (n : ℕ) (l : List IllegalStep) → take n (take n l) ≡ take n l
take_twice zero l = refl
take_twice (suc n) [] = refl
take_twice (suc n) (x ∷ l) = ap (λ (xs : List IllegalStep). x ∷ xs) (take_twice n l)

take_again : (n : ℕ) (l more : List IllegalStep) → take n (take n l ++ more) ≡ take n (l ++ more)
take_again zero l more = refl
take_again (suc n) [] more = refl
take_again (suc n) (x ∷ l) more = ap (λ (xs : List IllegalStep). x ∷ xs) (take_again n l more)

pub returns-in-Ok-clause-noted : goal.returns-in-Ok-clause-noted
returns-in-Ok-clause-noted c = λ before are.
    let add = λ (l : List IllegalStep). take 1000 (l ++ c.args.illegal ∷ []) in
    record {
      count = ap (λ n. n + 1) are.count ∙ sym (length-append before (c.args.illegal ∷ []));
      first = c.in-Ok.ensures (are.first ∙ sym (take_twice 1000 before) ∙ ap (take 1000) (sym are.first)) ∙ ap add are.first
          ∙ take_again 1000 before (c.args.illegal ∷ []);
    }
