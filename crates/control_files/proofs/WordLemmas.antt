-- The one word of a text, found from the left. Serves `only_word`.
use Rattle.std.proofs.Common.{◌≡◌, ◌≢◌, ℕ, ◌+◌, ◌<◌, Bool, true, false, not, List, [], ◌∷◌, ◌++◌, length, take, drop, refl, sym, ◌∙◌, ap, arith}
use Rattle.std.proofs.Common.{length-append, length-drop, one-add}
use Rattle.std.proofs.Math.Seq.{drop-append_seam, take-length}
use Rattle.std.proofs.lemmas.List.{take-append-drop}
use Rattle.std.specs.Prelude.{◌-◌, Some, None, option_copied, unwrap_or}
use Rattle.std.specs.Borrow.{Bor}
use Rattle.std.specs.Bool.{then_some}
use Rattle.std.specs.List.{list_all, position, position_or_len}
use Rattle.control_files.proofs.Runs.{position_or_len-append, position-found, position-none, front_passes, rest_outside, unwrap_or-position}
use Rattle.control_files.proofs.GrammarLemmas.{double_not, word_outside, spaces_outside}
use Rattle.control_files.specs.{is_space, AreSpaces, BeginsOutside, HasOnlyWord, IsOnlyWord}

length_positive : (xs : List ℕ) → xs ≢ [] → 0 < length xs
length_positive [] h = absurd (h refl)
length_positive (x ∷ xs) h = omega arith

-- where a text with a word has its first byte that is no white space
word_start : (text word : List ℕ) (h : HasOnlyWord text word) →
    (position_or_len (λ byte. not (is_space byte)) text ≡ length h.before) × (length h.before < length text)
word_start text word h =
    let at : position_or_len (λ byte. not (is_space byte)) (h.before ++ (word ++ h.after)) ≡ length h.before =
    position_or_len-append is_space (λ byte. not (is_space byte)) (λ byte. double_not (is_space byte)) h.before (word ++ h.after) h.spaces_before
    (word_outside word h.after h.no_space h.some_byte) in
    (rw h.parts at, rw h.parts (simp length-append (omega (arith, length_positive word h.some_byte))))

pub no_word : (text : List ℕ) → position (λ byte. not (is_space byte)) text ≡ None → (word : List ℕ) → ¬ HasOnlyWord text word
no_word text h word found = omega (arith, word_start text word found, position-none (λ byte. not (is_space byte)) text h)

-- the rest after the white space in front begins with the word, and white space follows
pub word_rest : (text word : List ℕ) (start : ℕ) → position (λ byte. not (is_space byte)) text ≡ Some start → (h : HasOnlyWord text word) →
    drop start text ≡ word ++ h.after
word_rest text word start found h =
    let at : start ≡ length h.before = (position-found (λ byte. not (is_space byte)) text start found).0 ∙ (word_start text word h).0 in
    rw (at, h.parts) (drop-append_seam h.before (word ++ h.after))

pub word_missing : (text : List ℕ) (start : ℕ) → position (λ byte. not (is_space byte)) text ≡ Some start →
    list_all is_space (drop (position_or_len is_space (drop start text)) (drop start text)) ≡ false → (word : List ℕ) → ¬ HasOnlyWord text word
word_missing text start found other word h =
    let end : position_or_len is_space (word ++ h.after) ≡ length word =
    position_or_len-append (λ byte. not (is_space byte)) is_space (λ byte. refl) word h.after h.no_space (spaces_outside h.after h.spaces_after) in
    let rest : list_all is_space (drop (position_or_len is_space (word ++ h.after)) (word ++ h.after)) ≡ false =
    rw (word_rest text word start found h) at other in
    let after : list_all is_space h.after ≡ false = rw (end, drop-append_seam word h.after) at rest in
    let clash : true ≡ false = sym h.spaces_after ∙ after in
    cc

begins_word : (rest : List ℕ) → 0 < length rest → BeginsOutside is_space rest → take (position_or_len is_space rest) rest ≢ []
begins_word [] some outside same = omega arith
begins_word (x ∷ xs) some outside same =
    let front : take (1 + position_or_len is_space xs) (x ∷ xs) ≡ [] = rw outside at same in
    let cons : x ∷ take (position_or_len is_space xs) xs ≡ [] = rw one-add at front in
    cc

pub word_found : (text : List ℕ) (start : ℕ) → position (λ byte. not (is_space byte)) text ≡ Some start →
    AreSpaces (drop (position_or_len is_space (drop start text)) (drop start text)) → HasOnlyWord text
    (take (position_or_len is_space (drop start text)) (drop start text))
word_found text start found spaces =
    let at : (start ≡ position_or_len (λ byte. not (is_space byte)) text) × (start < length text) =
    position-found (λ byte. not (is_space byte)) text start found in
    let front : AreSpaces (take start text) = rw at.0 (front_passes is_space (λ byte. not (is_space byte)) (λ byte. double_not (is_space byte)) text) in
    let outside : BeginsOutside is_space (drop start text) =
    rw at.0 (rest_outside is_space (λ byte. not (is_space byte)) (λ byte. double_not (is_space byte)) text) in
    record {
      before = take start text;
      after = drop (position_or_len is_space (drop start text)) (drop start text);
      parts = rw take-append-drop (sym (take-append-drop start text));
      spaces_before = front;
      spaces_after = spaces;
      no_space = front_passes (λ byte. not (is_space byte)) is_space (λ byte. refl) (drop start text);
      some_byte = begins_word (drop start text) (simp length-drop (omega (arith, at.1))) outside;
    }

-- the part from a place on is the rest
whole_rest : (n : ℕ) (xs : List ℕ) → take (length xs - n) (drop n xs) ≡ drop n xs
whole_rest n xs = rw (← length-drop n xs) (take-length (drop n xs))

-- the word before the first white space of the rest, where white space alone follows
answer_by : (text : List ℕ) (start : ℕ) (word : Bor (List ℕ)) (b : Bool) → position (λ byte. not (is_space byte)) text ≡ Some start →
    word.now ≡ take (position_or_len is_space (drop start text)) (drop start text) →
    b ≡ list_all is_space (drop (position_or_len is_space (drop start text)) (drop start text)) → IsOnlyWord text (option_copied (then_some b word))
answer_by text start word true found word_is clear = rw word_is (word_found text start found (sym clear))
answer_by text start word false found word_is clear = word_missing text start found (sym clear)

pub word_answer : (text rest after : List ℕ) (start end : ℕ) (word : Bor (List ℕ)) (b : Bool) → position (λ byte. not (is_space byte)) text ≡ Some start →
    rest ≡ take (length text - start) (drop start text) → end ≡ unwrap_or (position is_space rest) (length rest) →
    word.now ≡ take end rest → after ≡ drop end rest → b ≡ list_all is_space after → IsOnlyWord text (option_copied (then_some b word))
word_answer text rest after start end word b found rest_is end_is word_is after_is clear =
    let rest_now : rest ≡ drop start text = rest_is ∙ whole_rest start text in
    let end_now : end ≡ position_or_len is_space (drop start text) = end_is ∙ (unwrap_or-position is_space rest ∙ ap (position_or_len is_space) rest_now) in
    answer_by text start word b found
    (word_is ∙ rw (end_now, rest_now) refl)
    (clear ∙ rw (after_is, end_now, rest_now) refl)
