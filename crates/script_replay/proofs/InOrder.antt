-- Lines that were served one after the other, so far. Serves `replay`, `replay_by_visits`, `serve_own`, and `serve` of
-- `line_server`.
use Rattle.std.proofs.Common.{◌≡◌, ℕ, ◌+◌, ◌<◌, ◌≤◌, List, [], ◌∷◌, ◌++◌, length, take, get_or, append_assoc, append-nil, ap, refl, sym, ◌∙◌, subst}
use Rattle.std.proofs.lemmas.List.{take_more, take_all}
use Rattle.script_lines.specs.declared.line.Line.{Line}
use Rattle.script_replay.specs.Lines.{InOrder}

-- another line after them
pub in_order_more : {S : Type 0} (serves : Line → S → S → List ℕ → Type 0) (s m e : S) (lines : List Line) (line : Line) (text more : List ℕ)
    → InOrder serves lines s m text → serves line m e more → InOrder serves (lines ++ line ∷ []) s e (text ++ more)
in_order_more serves s m e [] line text more all one = record {
  first = more;
  rest = [];
  between = e;
  serves_first = subst (λ x. serves line x e more) all.1 one;
  serves_rest = (refl, refl);
  text_is = ap (λ l. l ++ more) all.0 ∙ sym (append-nil more);
}
in_order_more serves s m e (l ∷ lines) line text more all one = record {
  first = all.first;
  rest = all.rest ++ more;
  between = all.between;
  serves_first = all.serves_first;
  serves_rest = in_order_more serves all.between m e lines line all.rest more all.serves_rest one;
  text_is = ap (λ x. x ++ more) all.text_is ∙ append_assoc all.first all.rest more;
}

-- one line more
pub in_order_line : {S : Type 0} (serves : Line → S → S → List ℕ → Type 0) (s m e : S) (lines : List Line) (i : ℕ) (default : Line) (text new : List ℕ)
    → i < length lines → InOrder serves (take i lines) s m text
    → (more : List ℕ) → serves (get_or lines i default) m e more → new ≡ text ++ more
    → InOrder serves (take (i + 1) lines) s e new
in_order_line serves s m e lines i default text new inside all more one is =
    let next : take (i + 1) lines ≡ take i lines ++ get_or lines i default ∷ [] = take_more lines i default inside in
    rw (next, is) (in_order_more serves s m e (take i lines) (get_or lines i default) text more all one)

-- the lines are at their end
pub in_order_end : {S : Type 0} (serves : Line → S → S → List ℕ → Type 0) (s e : S) (lines : List Line) (i : ℕ) (text items : List ℕ)
    → length lines ≤ i → InOrder serves (take i lines) s e text → items ≡ text → InOrder serves lines s e items
in_order_end serves s e lines i text items past all is =
    subst (λ (x : List Line × List ℕ). InOrder serves x.0 s e x.1) (λ j. (take_all i lines past j, sym is j)) all
