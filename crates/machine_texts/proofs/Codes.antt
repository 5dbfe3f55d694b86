-- Codes that are all ASCII. Serves `push_characters`.
use Rattle.std.proofs.Common.{◌≡◌, ◌∙◌, ℕ, List, [], ◌∷◌, ◌++◌, true, Result, Ok, Err, IfOk, refl, ap, sym}
use Rattle.std.specs.Prelude.{if◌then◌else◌, is_ok}
use Rattle.std.proofs.lemmas.Bool.{and_parts, ltb-true}
use Rattle.std.proofs.lemmas.Str.{encode_ascii}
use Rattle.std.specs.Char.{is_ascii}
use Rattle.std.specs.List.{list_all}
use Rattle.machine_texts.specs.Characters.{characters}

-- such a text is its own bytes
characters_ascii : (text : List ℕ) → list_all is_ascii text ≡ true → characters text ≡ text
characters_ascii [] all = refl
characters_ascii (c ∷ text) all =
    let parts = and_parts (is_ascii c) (list_all is_ascii text) all in
    λ k. encode_ascii c (ltb-true c 128 parts.0) k ++ characters_ascii text parts.1 k

-- a text that was added whole added its characters
pub added_whole : {T E : Type 0} (r : Result T E) (old told new text : List ℕ)
    → new ≡ (if is_ok r then old ++ told else old) → told ≡ text → list_all is_ascii text ≡ true
    → IfOk r (λ x. new ≡ old ++ characters text)
added_whole (Err e) old told new text adds same all = tt
added_whole (Ok x) old told new text adds same all =
    adds ∙ ap (λ (l : List ℕ). old ++ l) (same ∙ sym (characters_ascii text all))
