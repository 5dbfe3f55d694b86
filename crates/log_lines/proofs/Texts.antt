-- A text and its words.
use Rattle.std.proofs.Common.{◌≡◌, ◌≢◌, ℕ, zero, suc, ◌+◌, ◌-◌, ◌^◌, ◌<◌, ◌≤◌, ◌==◌, ◌&&◌, Bool, true, false, cond, not, ltb, leb, ◌⊎◌, List, [], ◌∷◌, ◌++◌, All, Option, Some, None, IsTrue, is_some, length, take, drop}
use Rattle.std.proofs.Common.{arith, refl, sym, ap, ◌∙◌, append_assoc, inl, inr, leb-true, decimal, position, length-drop, take_all, ltb-false, ltb-true, ne_eqb, Bor}
use Rattle.std.specs.List.{join_with_byte, list_all, onto_first, position_or_len}
use Rattle.std.proofs.lemmas.Bool.{and_parts}
use Rattle.std.proofs.lemmas.Fmt.{decimal_is_IsNumeral}
use Rattle.std.proofs.lemmas.List.{append-nil}
use Rattle.std.proofs.lemmas.List.Splits.{join_with_byte-slice_split, slice_split_at, slice_split_first, slice_split_none}
use Rattle.std.proofs.lemmas.List.Sums.{fails_before_first}
use Rattle.std.proofs.lemmas.Str.Parse.{digit_from_value}
use Rattle.std.specs.Str.Parse.{AllDigits}
use Rattle.log_lines.specs.{Size, bound_of, Word, Fits, is_graphic, is_no_space, spaced, word_text, is_end, words_left, words_of}
use Rattle.log_lines.specs.Words.{Wide, Narrow, GroupAction, OrderAction, Fixed, Numeral, Path}
use Rattle.group_tree.specs.Bounds.{longest_path}
use Rattle.log_lines.proofs.Codecs.{AllFit, not_true, texts}

abbrev is_space : ℕ → Bool
is_space b = b == 32

-- ---- cutting at the first space

onto_is_some : (b : Bool) (x : ℕ) (parts : List (List ℕ)) → is_end (cond b ([] ∷ parts) (onto_first x parts)) ≡ false
onto_is_some true x parts = refl
onto_is_some false x [] = refl
onto_is_some false x (part ∷ parts) = refl

-- a text has a word
pub has_word : (text : List ℕ) → is_end (words_of text) ≡ false
has_word [] = refl
has_word (b ∷ bs) = onto_is_some (is_space b) b (words_of bs)

pub end_is : (rest : Option (Bor (List ℕ))) (b : Bool) → is_some rest ≡ not b → b ≡ is_end (words_left rest)
end_is None true e = refl
end_is None false e = let bad : false ≡ true = e in cc
end_is (Some text) true e = let bad : true ≡ false = e in cc
end_is (Some text) false e = sym (has_word text.now)

found_at : (b : Bool) (n : ℕ) (r : Option ℕ) → r ≡ cond b (Some n) None → ((b ≡ true) × (r ≡ Some n)) ⊎ ((b ≡ false) × (r ≡ None))
found_at true n r e = inl (refl, e)
found_at false n r e = inr (refl, e)

-- a text without a space is one word
pub one_word : (text : List ℕ) → position is_space text ≡ None → words_of text ≡ text ∷ []
one_word text e =
    elim (found_at (ltb (position_or_len is_space text) (length text)) (position_or_len is_space text) (position is_space text) refl) [
      | inl h ↦ let bad : None ≡ Some (position_or_len is_space text) = sym e ∙ h.1 in cc
      | inr h ↦ let long = ltb-false (position_or_len is_space text) (length text) h.0 in
          slice_split_none is_space text (λ k d lt. fails_before_first is_space text k d (omega arith))
    ]

-- the first word ends at the first space
pub first_word : (text : List ℕ) (end : ℕ) → position is_space text ≡ Some end
    → words_of text ≡ take end text ∷ words_of (take (length text - (end + 1)) (drop (end + 1) text))
first_word text end e =
    elim (found_at (ltb (position_or_len is_space text) (length text)) (position_or_len is_space text) (position is_space text) refl) [
      | inl h ↦ let same : position_or_len is_space text ≡ end = let both : Some (position_or_len is_space text) ≡ Some end = sym h.1 ∙ e in cc in
          let whole : take (length text - (end + 1)) (drop (end + 1) text) ≡ drop (end + 1) text
          = take_all _ (drop (end + 1) text) (omega (arith, length-drop (end + 1) text)) in
          let cut = slice_split_first is_space text 0 (ltb-true (position_or_len is_space text) (length text) h.0) in
          rw (whole, ← same) cut
      | inr h ↦ let bad : None ≡ Some end = sym h.1 ∙ e in cc
    ]

-- ---- words and their text

abbrev pub NoSpace : List ℕ → Type 0
NoSpace text = All (λ b. is_space b ≡ false) text

not_space : (b : ℕ) → is_no_space b ≡ true → is_space b ≡ false
not_space b e = not_true (is_space b) (λ is. let bad : not true ≡ true = rw is at e in cc)

no_space : (text : List ℕ) → IsTrue (list_all is_no_space text) → NoSpace text
no_space [] e k d h = absurd (omega arith)
no_space (b ∷ bs) e zero d h = not_space b (and_parts (is_no_space b) (list_all is_no_space bs) e).0
no_space (b ∷ bs) e (suc k) d h = no_space bs (and_parts (is_no_space b) (list_all is_no_space bs) e).1 k d (omega arith)

above_space : (b : ℕ) → 33 ≤ b → b ≢ 32
above_space b h e = omega arith

graphic_no_space : (text : List ℕ) → IsTrue (list_all is_graphic text) → NoSpace text
graphic_no_space [] e k d h = absurd (omega arith)
graphic_no_space (b ∷ bs) e zero d h =
    let low = and_parts (leb 33 b) (leb b 126) (and_parts (is_graphic b) (list_all is_graphic bs) e).0 in
    ne_eqb b 32 (above_space b (leb-true 33 b low.0))
graphic_no_space (b ∷ bs) e (suc k) d h = graphic_no_space bs (and_parts (is_graphic b) (list_all is_graphic bs) e).1 k d (omega arith)

digits_no_space : (ds : List ℕ) → AllDigits 10 ds → NoSpace ds
digits_no_space [] a k d h = absurd (omega arith)
digits_no_space (c ∷ cs) a zero d h = let range = digit_from_value c a.0 in ne_eqb c 32 (above_space c (omega arith))
digits_no_space (c ∷ cs) a (suc k) d h = digits_no_space cs a.1 k d (omega arith)

small_bound : (size : Size) → bound_of size ≤ 2 ^ 64
small_bound Wide = omega arith
small_bound Narrow = omega arith
small_bound GroupAction = omega arith
small_bound OrderAction = omega arith

-- a number that fits is below 2 ^ 64
pub numeral_small : (size : Size) (n : ℕ) → n < bound_of size → n < 2 ^ 64
numeral_small size n lt = let bound = small_bound size in omega arith

-- a word that fits has no space
word_no_space : (word : Word) → Fits word → NoSpace (word_text word)
word_no_space (Fixed text) fit = no_space text fit
word_no_space (Numeral size n) fit = digits_no_space (decimal n) (decimal_is_IsNumeral n (numeral_small size n fit)).0.1
word_no_space (Path text) fit = graphic_no_space text (and_parts (leb 1 (length text) && leb (length text) longest_path) (list_all is_graphic text) fit).1

-- the words of a text that has one space between two words
pub words_are : (word : Word) (words : List Word) → AllFit (word ∷ words) → words_of (word_text word ++ spaced words) ≡ texts (word ∷ words)
words_are word [] fit = rw (append-nil (word_text word)) (slice_split_none is_space (word_text word) (word_no_space word fit.0))
words_are word (next ∷ words) fit =
    slice_split_at is_space (word_text word) 32 (word_text next ++ spaced words) (word_no_space word fit.0) refl
    ∙ ap (λ (ts : List (List ℕ)). word_text word ∷ ts) (words_are next words fit.1)

joined : (word : Word) (words : List Word) → join_with_byte 32 (texts (word ∷ words)) ≡ word_text word ++ spaced words
joined word [] = sym (append-nil (word_text word))
joined word (next ∷ words) = ap (λ (t : List ℕ). word_text word ++ 32 ∷ t) (joined next words)

-- a text that has these words
pub text_is : (text : List ℕ) (word : Word) (words : List Word) → words_of text ≡ texts (word ∷ words) → text ≡ word_text word ++ spaced words
text_is text word words e = sym (join_with_byte-slice_split 32 text) ∙ ap (join_with_byte 32) e ∙ joined word words

pub spaced_append : (a b : List Word) → spaced (a ++ b) ≡ spaced a ++ spaced b
spaced_append [] b = refl
spaced_append (x ∷ a) b =
    ap (λ (t : List ℕ). 32 ∷ (word_text x ++ t)) (spaced_append a b)
    ∙ ap (λ (t : List ℕ). 32 ∷ t) (sym (append_assoc (word_text x) (spaced a) (spaced b)))
