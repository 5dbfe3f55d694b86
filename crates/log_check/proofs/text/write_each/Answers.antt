-- Serves the contract of `write_each`: one line more is written.
use Rattle.std.proofs.Common.{◌≡◌, ◌∙◌, ◌+◌, ◌++◌, ◌∷◌, [], List, ℕ, ap, append_assoc, append-nil, flat_map, sym, take}
use Rattle.std.proofs.lemmas.Grind.{flat_map-append}
use Rattle.std.proofs.lemmas.List.{take_more}
use Rattle.log_check.specs.declared.verdict.IllegalStep.{IllegalStep}
use Rattle.log_check.specs.Texts.{illegal_text}
use Rattle.log_check.proofs.text.write_each.Goals as goal

pub loop-illegal-preserved : goal.loop-illegal-preserved
loop-illegal-preserved c =
    let xs = c.args.first.now in
    let i = c.loop-illegal.illegal-index in
    let x : IllegalStep = c.illegal-item.result in
    let old = c.args.text.now.items in
    let before = flat_map illegal_text (take i xs) in
    let more : take (i + 1) xs ≡ take i xs ++ x ∷ [] =
    take_more xs i x c.loop-illegal-test.true ∙ ap (λ (y : IllegalStep). take i xs ++ y ∷ []) (sym c.illegal-item.is) in
    let all : flat_map illegal_text (take (i + 1) xs) ≡ before ++ illegal_text x =
    ap (flat_map illegal_text) more ∙ flat_map-append illegal_text (take i xs) (x ∷ []) ∙ ap (λ (l : List ℕ). before ++ l) (append-nil (illegal_text x)) in
    c.in_ok-write_illegal.ensures ∙ ap (λ (l : List ℕ). l ++ illegal_text x) c.loop-illegal.invariant ∙ append_assoc old before (illegal_text x)
    ∙ ap (λ (l : List ℕ). old ++ l) (sym all)
