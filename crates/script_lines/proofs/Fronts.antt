-- A text that a wider one begins with.
use Rattle.std.proofs.Common.{◌≡◌, ℕ, ◌+◌, ◌-◌, ◌<◌, ◌≤◌, Bool, true, false, cond, List, [], ◌∷◌, length, take, drop, get_or, arith, refl, sym, ap, ◌∙◌, inl, inr}
use Rattle.std.proofs.lemmas.Bool.{cases_lt}
use Rattle.std.proofs.lemmas.List.{drop-take, get_or-take, length-drop, take-take, take_all, take_rest}
use Rattle.std.specs.List.{onto_first, slice_split}
use Rattle.script_lines.specs.{IsFrontOf, texts_of}

-- a text begins with itself
pub front_whole : (text : List ℕ) → IsFrontOf text text
front_whole text = sym (take_all (length text) text (omega arith))

-- the wide text is no shorter
pub front_inside : (text wide : List ℕ) → IsFrontOf text wide → length text ≤ length wide
front_inside text wide is = elim (cases_lt (length wide) (length text)) [
  | inl less ↦
      let same : length text ≡ length wide = ap length is ∙ ap length (take_all (length text) wide (omega arith)) in
      absurd (omega arith)
  | inr within ↦ within
]

-- it has the same bytes
pub front_byte : (text wide : List ℕ) (k : ℕ) → IsFrontOf text wide → k < length text → get_or text k 0 ≡ get_or wide k 0
front_byte text wide k is h = ap (λ t. get_or t k 0) is ∙ get_or-take (length text) wide k 0 h

-- and begins as the text does
pub front_take : (text wide : List ℕ) (end : ℕ) → IsFrontOf text wide → end ≤ length text → take end text ≡ take end wide
front_take text wide end is h = ap (take end) is ∙ take-take end (length text) wide h

-- after a place too
pub front_rest : (text wide : List ℕ) (p : ℕ) → IsFrontOf text wide → p ≤ length text
    → IsFrontOf (take (length text - p) (drop p text)) (take (length wide - p) (drop p wide))
front_rest text wide p is h =
    let m = length text - p in
    let parts : p + m ≡ length text = omega arith in
    let long : length (drop p text) ≡ m = length-drop p text in
    let cut : drop p text ≡ take m (drop p wide) = ap (drop p) (is ∙ ap (λ n. take n wide) (sym parts)) ∙ drop-take p m wide in
    rw (take_rest text p) (rw (take_rest wide p) (rw long cut))

heads_cons : (b : Bool) (parts : List (List ℕ)) (x : ℕ) (xs t : List ℕ) (ts : List (List ℕ))
    → ((s : List ℕ) (ss : List (List ℕ)) → parts ≡ s ∷ ss → s ≡ take (length s) xs)
    → cond b ([] ∷ parts) (onto_first x parts) ≡ t ∷ ts → t ≡ take (length t) (x ∷ xs)
heads_cons true parts x xs t ts f e = let none : [] ≡ t = cc in rw (← none) refl
heads_cons false [] x xs t ts f e = let one : x ∷ [] ≡ t = cc in rw (← one) refl
heads_cons false (s ∷ ss) x xs t ts f e =
    let more : x ∷ s ≡ t = cc in
    rw (← more) (ap (λ (l : List ℕ). x ∷ l) (f s ss refl))

-- the first part of a split is what the whole begins with
heads : (p : ℕ → Bool) (xs t : List ℕ) (ts : List (List ℕ)) → slice_split p xs ≡ t ∷ ts → t ≡ take (length t) xs
heads p [] t ts e = let none : [] ≡ t = cc in rw (← none) refl
heads p (x ∷ xs) t ts e = heads_cons (p x) (slice_split p xs) x xs t ts (λ s ss is. heads p xs s ss is) e

-- a script begins with its first text
pub first_front : (script text : List ℕ) (others : List (List ℕ)) → texts_of script ≡ text ∷ others → IsFrontOf text script
first_front script text others is = heads _ script text others is
