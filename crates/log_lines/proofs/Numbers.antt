-- A number and the word that writes it.
use Rattle.std.proofs.Common.{◌≡◌, ◌≢◌, ℕ, ◌^◌, ◌<◌, Bool, true, false, ◌&&◌, ltb, List, Some, None, refl, sym, ap, ◌∙◌}
use Rattle.std.proofs.Common.{decimal, bytes_eq, IsUtf8, ltb-true, lt-ltb}
use Rattle.std.proofs.lemmas.Bool.{and_parts}
use Rattle.std.proofs.lemmas.Fmt.{IsAscii-decimal, decimal_is_IsNumeral}
use Rattle.std.proofs.lemmas.Slice.Eq.{bytes_eq-Decides}
use Rattle.std.proofs.lemmas.Str.{IsUtf8-from_ascii}
use Rattle.std.specs.Str.Parse.{digits_value}
use Rattle.log_lines.specs.Reading.{u64_of, only_if}

-- the text of a number is UTF-8
pub utf8_decimal : (n : ℕ) → n < 2 ^ 64 → IsUtf8 (decimal n)
utf8_decimal n lt = IsUtf8-from_ascii (decimal n) (IsAscii-decimal n lt)

-- what a passed test gives
pub only_if_is : {A : Type 0} (test : Bool) (x y : A) → only_if test x ≡ Some y → (test ≡ true) × (x ≡ y)
only_if_is true x y e = (refl, cc)
only_if_is false x y e = absurd cc

-- a test that can't pass
pub only_if_none : {A : Type 0} (test : Bool) (x : A) → ¬ (test ≡ true) → only_if test x ≡ None
only_if_none true x fails = absurd (fails refl)
only_if_none false x fails = refl

-- a word is the text of the number that it writes
pub number_is : (word : List ℕ) (n : ℕ) → u64_of word ≡ Some n → (word ≡ decimal n) × (n < 2 ^ 64)
number_is word n e =
    let passed = only_if_is (bytes_eq (decimal (digits_value 10 word)) word && ltb (digits_value 10 word) (2 ^ 64)) (digits_value 10 word) n e in
    let both = and_parts (bytes_eq (decimal (digits_value 10 word)) word) (ltb (digits_value 10 word) (2 ^ 64)) passed.0 in
    let text : decimal (digits_value 10 word) ≡ word = (bytes_eq-Decides (decimal (digits_value 10 word)) word).0 both.0 in
    (sym text ∙ ap decimal passed.1, rw (← passed.1) (ltb-true (digits_value 10 word) (2 ^ 64) both.1))

-- the text of a number writes it
pub number_again : (n : ℕ) → n < 2 ^ 64 → u64_of (decimal n) ≡ Some n
number_again n lt =
    let value = (decimal_is_IsNumeral n lt).1 in
    let same = (bytes_eq-Decides (decimal n) (decimal n)).1 refl in
    rw (value, same, lt-ltb n (2 ^ 64) lt) refl

-- a word that is the text of no number
pub no_number : (word : List ℕ) → ((n : ℕ) → n < 2 ^ 64 → word ≢ decimal n) → u64_of word ≡ None
no_number word none = only_if_none _ (digits_value 10 word)
    (λ passed. let both = and_parts (bytes_eq (decimal (digits_value 10 word)) word) (ltb (digits_value 10 word) (2 ^ 64)) passed in
    none (digits_value 10 word) (ltb-true _ _ both.1) (sym ((bytes_eq-Decides (decimal (digits_value 10 word)) word).0 both.0)))
