-- Serves the contract of `write_due`: one text follows the other.
use Rattle.std.proofs.Common.{◌≡◌, ◌∙◌, ◌++◌, ℕ, List, Result, Ok, Err, IfOk, ap, append_assoc, codes}
use Rattle.std.specs.Prelude.{if◌then◌else◌, is_ok}
use Rattle.log_lines.specs.Words.{answer_words, spaced}
use Rattle.log_check.proofs.text.write_due.Goals as goal

follow : {T E : Type 0} (r : Result T E) (old a b z s t u : List ℕ) → s ≡ old ++ a → t ≡ s ++ b → u ≡ (if is_ok r then t ++ z else t)
    → IfOk r (λ x. u ≡ old ++ (a ++ (b ++ z)))
follow (Err e) old a b z s t u one two three = tt
follow (Ok x) old a b z s t u one two three =
    three ∙ ap (λ (l : List ℕ). l ++ z) (two ∙ ap (λ (l : List ℕ). l ++ b) one ∙ append_assoc old a b)
    ∙ append_assoc old (a ++ b) z ∙ ap (λ (l : List ℕ). old ++ l) (append_assoc a b z)

pub returns : goal.returns
returns c =
    follow c.extend_from_slice-2.result c.args.text.now.items (codes " is not legal:") (spaced (answer_words c.args.expected.now)) (codes " was due: ")
    _ _ _ c.in_ok-extend_from_slice.ensures.items c.in_ok-write_answer.ensures c.extend_from_slice-2.ensures.items
