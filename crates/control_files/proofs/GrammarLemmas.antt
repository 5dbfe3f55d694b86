-- The grammar of limits: each text has one value. Serves `one_value` and `read_limit`.
use Rattle.std.proofs.Common.{◌≡◌, ◌≢◌, ℕ, ◌<◌, ◌≤◌, Bool, true, false, not, List, [], ◌∷◌, ◌++◌, length, refl, sym, ◌∙◌, ap, subst, arith}
use Rattle.std.specs.Prelude.{IsTrue, Option, Some, None, codes}
use Rattle.std.specs.Char.{is_ascii_digit, digit_value, to_ascii_uppercase}
use Rattle.std.specs.List.{list_all}
use Rattle.std.specs.Str.Parse.{IsNumeral, AllDigits, digits_value}
use Rattle.std.proofs.lemmas.List.Folds.{list_all-append}
use Rattle.std.proofs.lemmas.Bool.Decides.{nat_tests}
use Rattle.control_files.proofs.Runs.{and_parts, same_front}
use Rattle.control_files.specs.Limit.{is_space, AreSpaces, factor_of, IsSuffix, IsAmount, IsLimitWord, IsLimitText}
use Rattle.control_files.specs.Reading.{BeginsOutside, HasNoSpace, HasOnlyWord}

digit_range : (c : ℕ) → digit_value c < 10 → (48 ≤ c) × (c ≤ 57)
digit_range c h = (grind (arith, nat_tests), grind (arith, nat_tests))

digit_passes : (c : ℕ) → digit_value c < 10 → is_ascii_digit c ≡ true
digit_passes c h = let r : (48 ≤ c) × (c ≤ 57) = digit_range c h in grind (arith, nat_tests)

-- a letter that is a suffix is no digit and no white space
letter_range : (c factor : ℕ) → factor_of (to_ascii_uppercase c) ≡ Some factor → (69 ≤ c) × (c ≤ 116) × (1 ≤ factor)
unfolding factor_of
letter_range c factor h = grind (arith, nat_tests)

outside_digits : (c : ℕ) → 58 ≤ c → is_ascii_digit c ≡ false
outside_digits c h = grind (arith, nat_tests)

outside_spaces : (c : ℕ) → 33 ≤ c → is_space c ≡ false
outside_spaces c h = grind (arith, nat_tests)

pub all_digits_pass : (ds : List ℕ) → AllDigits 10 ds → IsTrue (list_all is_ascii_digit ds)
all_digits_pass [] h = refl
all_digits_pass (c ∷ cs) h = rw (digit_passes c h.0) (all_digits_pass cs h.1)

digit_no_space : (c : ℕ) → digit_value c < 10 → is_space c ≡ false
digit_no_space c h = let r : (48 ≤ c) × (c ≤ 57) = digit_range c h in outside_spaces c (omega arith)

all_digits_no_space : (ds : List ℕ) → AllDigits 10 ds → HasNoSpace ds
all_digits_no_space [] h = refl
all_digits_no_space (c ∷ cs) h = rw (digit_no_space c h.0) (all_digits_no_space cs h.1)

letter_no_space : (c factor : ℕ) → factor_of (to_ascii_uppercase c) ≡ Some factor → is_space c ≡ false
letter_no_space c factor h = let r : (69 ≤ c) × (c ≤ 116) × (1 ≤ factor) = letter_range c factor h in outside_spaces c (omega arith)

suffix_no_space : (suffix : List ℕ) (factor : ℕ) → IsSuffix suffix factor → HasNoSpace suffix
suffix_no_space [] factor h = refl
suffix_no_space (c ∷ []) factor h = rw (letter_no_space c factor h) refl
suffix_no_space (c ∷ d ∷ ds) factor h = absurd h

pub suffix_outside : (suffix : List ℕ) (factor : ℕ) → IsSuffix suffix factor → BeginsOutside is_ascii_digit suffix
suffix_outside [] factor h = tt
suffix_outside (c ∷ []) factor h = let r : (69 ≤ c) × (c ≤ 116) × (1 ≤ factor) = letter_range c factor h in outside_digits c (omega arith)
suffix_outside (c ∷ d ∷ ds) factor h = absurd h

pub factor_positive : (suffix : List ℕ) (factor : ℕ) → IsSuffix suffix factor → 1 ≤ factor
factor_positive [] factor h = omega arith
factor_positive (c ∷ []) factor h = (letter_range c factor h).2
factor_positive (c ∷ d ∷ ds) factor h = absurd h

-- a suffix has one factor
same_factor : (suffix : List ℕ) (m n : ℕ) → IsSuffix suffix m → IsSuffix suffix n → m ≡ n
same_factor [] m n h k = h ∙ sym k
same_factor (c ∷ []) m n h k = let same : Some m ≡ Some n = sym h ∙ k in cc
same_factor (c ∷ d ∷ ds) m n h k = absurd h

pub double_not : (b : Bool) → not (not b) ≡ b
double_not true = refl
double_not false = refl

-- an amount has one value
pub same_amount : (word : List ℕ) (m n : ℕ) → IsAmount word m → IsAmount word n → m ≡ n
same_amount word m n h k =
    let parts : (h.digits ≡ k.digits) × (h.suffix ≡ k.suffix) =
    same_front is_ascii_digit (λ c. not (is_ascii_digit c)) (λ c. double_not (is_ascii_digit c)) h.digits h.suffix k.digits k.suffix
    (all_digits_pass h.digits h.numeral.1) (suffix_outside h.suffix h.factor h.suffix_is)
    (all_digits_pass k.digits k.numeral.1) (suffix_outside k.suffix k.factor k.suffix_is)
    (sym h.parts ∙ k.parts) in
    let P : List ℕ → Type 0 = λ s. IsSuffix s k.factor in
    let suffix_is : IsSuffix h.suffix k.factor = subst P (sym parts.1) k.suffix_is in
    let factors : h.factor ≡ k.factor = same_factor h.suffix h.factor k.factor h.suffix_is suffix_is in
    let numbers : digits_value 10 h.digits ≡ digits_value 10 k.digits = ap (digits_value 10) parts.0 in
    h.value ∙ (rw (numbers, factors) (sym k.value))

-- `max` is no amount
max_no_amount : (digits suffix : List ℕ) → IsNumeral 10 digits → codes "max" ≡ (digits ++ suffix) → ⊥
max_no_amount [] suffix numeral parts = omega (arith, numeral.0)
max_no_amount (c ∷ cs) suffix numeral parts =
    let first : 109 ≡ c = cc in
    let range : (48 ≤ c) × (c ≤ 57) = digit_range c numeral.1.0 in
    omega arith

same_word_value : (word : List ℕ) (v w : Option ℕ) → IsLimitWord word v → IsLimitWord word w → v ≡ w
same_word_value word None None h k = refl
same_word_value word None (Some n) h k = absurd (max_no_amount k.digits k.suffix k.numeral (sym h ∙ k.parts))
same_word_value word (Some m) None h k = absurd (max_no_amount h.digits h.suffix h.numeral (sym k ∙ h.parts))
same_word_value word (Some m) (Some n) h k = ap Some (same_amount word m n h k)

no_space_append : (xs ys : List ℕ) → HasNoSpace xs → HasNoSpace ys → HasNoSpace (xs ++ ys)
no_space_append xs ys h k = rw (list_all-append (λ byte. not (is_space byte)) xs ys) (rw (h, k) refl)

nonempty_append : (xs ys : List ℕ) → 0 < length xs → (xs ++ ys) ≢ []
nonempty_append [] ys h same = omega arith
nonempty_append (x ∷ xs) ys h same = cc

-- the word of a text in the grammar has no white space, and some byte
limit_word_no_space : (word : List ℕ) (v : Option ℕ) → IsLimitWord word v → HasNoSpace word × (word ≢ [])
limit_word_no_space word None h = (rw h refl, λ same. let no : codes "max" ≡ [] = sym h ∙ same in cc)
limit_word_no_space word (Some n) h = (
  rw h.parts (no_space_append h.digits h.suffix (all_digits_no_space h.digits h.numeral.1) (suffix_no_space h.suffix h.factor h.suffix_is)),
  rw h.parts (nonempty_append h.digits h.suffix h.numeral.0),
)

pub has_only_word : (text : List ℕ) (v : Option ℕ) (h : IsLimitText text v) → HasOnlyWord text h.word
has_only_word text v h =
    let clear : HasNoSpace h.word × (h.word ≢ []) = limit_word_no_space h.word v h.word_is in
    record {
      before = h.before;
      after = h.after;
      parts = h.parts;
      spaces_before = h.spaces_before;
      spaces_after = h.spaces_after;
      no_space =
          clear.0;
      some_byte = clear.1;
    }

pub spaces_outside : (bytes : List ℕ) → AreSpaces bytes → BeginsOutside (λ byte. not (is_space byte)) bytes
spaces_outside [] h = tt
spaces_outside (c ∷ cs) h = rw ((and_parts (is_space c) (list_all is_space cs) h).0) refl

not_true : (b : Bool) → not b ≡ true → b ≡ false
not_true true h = cc
not_true false h = refl

pub word_outside : (word after : List ℕ) → HasNoSpace word → word ≢ [] → BeginsOutside is_space (word ++ after)
word_outside [] after h some = absurd (some refl)
word_outside (c ∷ cs) after h some = not_true (is_space c) (and_parts (not (is_space c)) (list_all (λ byte. not (is_space byte)) cs) h).0

-- a text has one word at most between white space
pub same_only_word : (text word other : List ℕ) → HasOnlyWord text word → HasOnlyWord text other → word ≡ other
same_only_word text word other h k =
    let rest : (h.before ≡ k.before) × ((word ++ h.after) ≡ (other ++ k.after)) =
    same_front is_space (λ c. not (is_space c)) (λ c. double_not (is_space c)) h.before (word ++ h.after) k.before (other ++ k.after)
    h.spaces_before (word_outside word h.after h.no_space h.some_byte) k.spaces_before (word_outside other k.after k.no_space k.some_byte)
    (sym h.parts ∙ k.parts) in
    (same_front (λ c. not (is_space c)) is_space (λ c. refl) word h.after other k.after
    h.no_space (spaces_outside h.after h.spaces_after) k.no_space (spaces_outside k.after k.spaces_after) rest.1).0

-- a text has one value
pub same_value : (text : List ℕ) (v w : Option ℕ) → IsLimitText text v → IsLimitText text w → v ≡ w
same_value text v w h k =
    let words : h.word ≡ k.word = same_only_word text h.word k.word (has_only_word text v h) (has_only_word text w k) in
    let P : List ℕ → Type 0 = λ word. IsLimitWord word w in
    let word_is : IsLimitWord h.word w = subst P (sym words) k.word_is in
    same_word_value h.word v w h.word_is word_is
