use Rattle.std.proofs.Common.{◌≡◌, ◌∙◌, ◌==◌, List, None, Some, ap, rules, sym, tests, ℕ}
use Rattle.std.specs.List.{slice_get, slice_split}
use Rattle.std.specs.Option.{option_map}
use Rattle.std.proofs.lemmas.Iterator.Consumers.{nth_from_yields_List}
use Rattle.std.proofs.lemmas.Iterator.Splits.{YieldsList-from_slice_split}
use Rattle.load_run.specs.Refusals.{first_word}
use Rattle.load_run.proofs.refusals.is_refusal.Goals as goal

pub returns-in-Some : goal.returns-in-Some
returns-in-Some c =
    let words : List (List ℕ) = slice_split (λ byte. byte == 32) c.args.line.now in
    let at : option_map (λ x. x.now) c.nth.result ≡ slice_get words c.first_word-place.result =
    nth_from_yields_List _ _ c.first_word-place.result c.nth.ensures.ran
    (YieldsList-from_slice_split _ _ c.args.line.now c.split.ensures.rest c.split.ensures.done c.split.ensures.closure
    (λ x r q k. search (rules, tests))) in
    let found : slice_get words (first_word c.args.is_numbered) ≡ Some c.in-Some.word.now =
    ap (slice_get words) (sym c.first_word-place.ensures) ∙ sym at ∙ ap (option_map (λ x. x.now)) c.in-Some.is in
    rw found (search rules)

pub returns-in-None : goal.returns-in-None
returns-in-None c =
    let words : List (List ℕ) = slice_split (λ byte. byte == 32) c.args.line.now in
    let at : option_map (λ x. x.now) c.nth.result ≡ slice_get words c.first_word-place.result =
    nth_from_yields_List _ _ c.first_word-place.result c.nth.ensures.ran
    (YieldsList-from_slice_split _ _ c.args.line.now c.split.ensures.rest c.split.ensures.done c.split.ensures.closure
    (λ x r q k. search (rules, tests))) in
    let found : slice_get words (first_word c.args.is_numbered) ≡ None =
    ap (slice_get words) (sym c.first_word-place.ensures) ∙ sym at ∙ ap (option_map (λ x. x.now)) c.in-None.is in
    rw found (search rules)
