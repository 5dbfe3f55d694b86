-- A text for an answer.
use Rattle.std.proofs.Common.{◌≡◌, ◌++◌, true, List, [], ℕ, Result, Ok, Err, IfOk, IfErr, append-nil, refl, subst, sym}
use Rattle.std.specs.declared.string.String.{String}
use Rattle.std.specs.String.{string_bytes}
use Rattle.script_replay.specs.{AddsText, SaysNumbered, numbered_text}

-- what holds, holds if there is an error
pub at_error : {T E : Type 0} (r : Result T E) (P : Type 0) → P → IfErr r (λ _. P)
at_error (Ok x) P is = tt
at_error (Err e) P is = is

pub at_ok : {T E : Type 0} (r : Result T E) {P : Type 0} → P → IfOk r (λ _. P)
at_ok (Ok x) is = is
at_ok (Err e) is = tt

-- nothing is added
pub nothing_added : {Z T E : Type 0} (is_said : List ℕ → Type 0) (old : String Z) (r : Result T E) → is_said [] → AddsText r old old is_said
nothing_added is_said old r so = record { text = []; so = so; added = at_ok r (sym (append-nil (string_bytes old))) }

-- ---- with the number of a line

-- an answer that is a text of its own, which is then added with the number, as far as there is memory
pub with_number : {Z T E : Type 0} (is_said : List ℕ → Type 0) (number : ℕ) (said plain : List ℕ) (before after : String Z) (r : Result T E)
    → is_said said → plain ≡ said → IfOk r (λ _. string_bytes after ≡ string_bytes before ++ numbered_text number plain)
    → AddsText r before after (SaysNumbered true number is_said)
with_number is_said number said plain before after r so is added = record {
  text = numbered_text number said;
  so = record { plain = said; so = so; text_is = refl };
  added = subst (λ (l : List ℕ). IfOk r (λ _. string_bytes after ≡ string_bytes before ++ numbered_text number l)) is added;
}
