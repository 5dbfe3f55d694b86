-- The texts of a script, the first before the others.
use Rattle.std.proofs.Common.{◌≡◌, ◌≢◌, ℕ, suc, ◌+◌, ◌-◌, ◌<◌, ◌≤◌, ◌==◌, List, [], ◌∷◌, ◌++◌, All, length, take, drop, arith, refl, sym, ap, ◌∙◌, inl, inr}
use Rattle.std.proofs.Math.Seq.{drop-cons}
use Rattle.std.proofs.lemmas.Bool.{cases_lt, ne_eqb}
use Rattle.std.proofs.lemmas.List.{length-drop, take-append-drop, take_all}
use Rattle.std.proofs.lemmas.List.Splits.{slice_split_at, slice_split_none}
use Rattle.script_lines.specs.{IsFirstPlace, IsLineEnd, texts_of}

-- a script without a line feed is one text
pub one_text : (script : List ℕ) → All (λ b. b ≢ 10) script → texts_of script ≡ script ∷ []
one_text script none = slice_split_none (λ b. b == 10) script (λ k d h. ne_eqb _ 10 (none k d h))

-- the first text ends at the first line feed
pub first_text : (script : List ℕ) (place : ℕ) → IsFirstPlace 10 script place
    → texts_of script ≡ take place script ∷ texts_of (take (length script - (place + 1)) (drop (place + 1) script))
first_text script place is =
    let rest = drop (place + 1) script in
    let whole : take (length script - (place + 1)) rest ≡ rest = take_all _ rest (omega (arith, length-drop (place + 1) script)) in
    let next : suc place ≡ place + 1 = omega arith in
    let feed : drop place script ≡ 10 ∷ drop (suc place) script
    = drop-cons script place 0 is.inside ∙ ap (λ (b : ℕ). b ∷ drop (suc place) script) is.here in
    let parts : take place script ++ 10 ∷ rest ≡ script = rw (← next) (ap (λ t. take place script ++ t) (sym feed) ∙ take-append-drop place script) in
    let cut = slice_split_at (λ b. b == 10) (take place script) 10 rest (λ k d h. ne_eqb _ 10 (is.before k d h)) refl in
    rw whole (ap texts_of (sym parts) ∙ cut)

-- the place where a line feed ends the first line
pub feed_at : (script : List ℕ) (end : ℕ) → IsLineEnd script end → end < length script → IsFirstPlace 10 script end
feed_at script end ends inside = record { inside = inside; here = ends.stop inside; before = ends.bytes }

-- a line that no line feed ends is the whole script
pub last_text : (script : List ℕ) (end : ℕ) → IsLineEnd script end → length script ≤ end → texts_of script ≡ take end script ∷ []
last_text script end ends past =
    let whole : take end script ≡ script = take_all end script past in
    rw whole (one_text script (rw whole at ends.bytes))

-- the first text of a script ends where its first line does
pub line_first : (script : List ℕ) (end : ℕ) → IsLineEnd script end → (others : List (List ℕ)) × (texts_of script ≡ take end script ∷ others)
line_first script end ends = elim (cases_lt end (length script)) [
  | inl inside ↦ (_, first_text script end (feed_at script end ends inside))
  | inr past ↦ ([], last_text script end ends past)
]
