-- A comment, and those of an answer, line by line. Serves `add_comment`, `add_answer`.
use Rattle.std.proofs.Common.{◌≡◌, ◌∙◌, ℕ, ◌+◌, ◌≤◌, List, [], ◌∷◌, ◌++◌, ap, append_assoc, arith, length, map, refl, sym, take}
use Rattle.std.specs.Prelude.{◌==◌}
use Rattle.std.proofs.lemmas.List.{map-append}
use Rattle.std.proofs.lemmas.List.Splits.{length-slice_split}
use Rattle.std.proofs.Math.Seq.{take-append-add}
use native.Mathlib.Numerals.{unary_clauses}
use Rattle.script_lines.specs.Script.{texts_of}
use Rattle.line_server.specs.Logs.{answer_comment, comment, comments_of, printed}

-- both texts were added as they are shown, cut, and ended
pub commented : (old front back first both cut new : List ℕ) (start : ℕ) → start ≡ length old → first ≡ old ++ map printed front
    → both ≡ first ++ map printed back → cut ≡ take (start + 1024) both → new ≡ cut ++ 10 ∷ [] → new ≡ old ++ comment (front ++ back)
commented old front back first both cut new start at is_first is_both is_cut is =
    let shown = map printed (front ++ back) in
    let all : both ≡ old ++ shown =
    is_both ∙ ap (λ (l : List ℕ). l ++ map printed back) is_first ∙ append_assoc old (map printed front) (map printed back)
    ∙ ap (λ (l : List ℕ). old ++ l) (sym (map-append printed front back)) in
    let whole : cut ≡ old ++ take 1024 shown =
    is_cut ∙ ap (λ (n : ℕ). take (n + 1024) both) at ∙ ap (take (length old + 1024)) all ∙ take-append-add old shown 1024 in
    is ∙ ap (λ (l : List ℕ). l ++ 10 ∷ []) whole ∙ append_assoc old (take 1024 shown) (10 ∷ [])

-- a line before other texts has its comment before theirs
first_comment : (line : List ℕ) (texts : List (List ℕ)) → 1 ≤ length texts → comments_of (line ∷ texts) ≡ answer_comment line ++ comments_of texts
first_comment line [] some = absurd (omega (arith, some))
first_comment line (text ∷ texts) some = simp unary_clauses refl

-- the comment of one line more was added
pub answer_more : (log line left new whole : List ℕ) (next : List (List ℕ)) → log ++ comments_of (line ∷ texts_of left) ≡ whole → texts_of left ≡ next
    → new ≡ log ++ answer_comment line → new ++ comments_of next ≡ whole
answer_more log line left new whole next so_far is added =
    let long = length-slice_split (λ b. b == 10) left in
    ap (λ (l : List ℕ). l ++ comments_of next) added ∙ append_assoc log (answer_comment line) (comments_of next)
    ∙ ap (λ (texts : List (List ℕ)). log ++ (answer_comment line ++ comments_of texts)) (sym is)
    ∙ ap (λ (l : List ℕ). log ++ l) (sym (first_comment line (texts_of left) (omega (arith, long)))) ∙ so_far
