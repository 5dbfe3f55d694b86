-- The amount that a word writes, by its digits and its suffix. Serves `read_amount` and `split_digits`.
use Rattle.std.proofs.Common.{◌≡◌, ℕ, ◌*◌, ◌^◌, ◌<◌, ◌≤◌, true, not, List, [], ◌∷◌, length, take, drop, refl, sym, ◌∙◌, subst, arith}
use Rattle.std.proofs.Math.Nat.{mul-le-mul_left}
use Rattle.std.specs.Prelude.{IsTrue, Option, Some, None, Result, Err, IfNone, SomeIff, ok_or}
use Rattle.group_tree.specs.declared.fault.Fault.{Fault}
use Rattle.group_tree.specs.declared.fault.Fault.TheVariants.{BadLimit, BadNumber}
use Rattle.std.specs.Char.{is_ascii_digit, digit_value}
use Rattle.std.specs.List.{list_all, position_or_len}
use Rattle.std.specs.Str.Parse.{AllDigits, digits_value}
use Rattle.std.proofs.lemmas.Bool.Decides.{nat_tests}
use Rattle.std.proofs.lemmas.List.{take-append-drop}
use Rattle.control_files.proofs.Runs.{and_parts, same_front, front_passes, rest_outside}
use Rattle.control_files.proofs.GrammarLemmas.{double_not, all_digits_pass, suffix_outside, factor_positive}
use Rattle.control_files.specs.{IsSuffix, IsAmount, SplitsDigits, IsAmountReading}

passing_digit : (c : ℕ) → is_ascii_digit c ≡ true → digit_value c < 10
passing_digit c h = grind (arith, nat_tests)

passing_digits : (ds : List ℕ) → IsTrue (list_all is_ascii_digit ds) → AllDigits 10 ds
passing_digits [] h = tt
passing_digits (c ∷ cs) h =
    let parts : (is_ascii_digit c ≡ true) × (list_all is_ascii_digit cs ≡ true) = and_parts (is_ascii_digit c) (list_all is_ascii_digit cs) h in
    (passing_digit c parts.0, passing_digits cs parts.1)

pub splits_digits : (word : List ℕ) (end : ℕ) → end ≡ position_or_len (λ byte. not (is_ascii_digit byte)) word →
    SplitsDigits word (take end word) (drop end word)
splits_digits word end h = record {
  parts = sym (take-append-drop end word);
  all_digits = rw h (passing_digits _ (front_passes is_ascii_digit (λ byte. not (is_ascii_digit byte)) (λ byte. double_not (is_ascii_digit byte)) word));
  no_digit = rw h (rest_outside is_ascii_digit (λ byte. not (is_ascii_digit byte)) (λ byte. double_not (is_ascii_digit byte)) word);
}

-- an amount has the digits and the suffix into which its word is split
amount_parts : (word digits suffix : List ℕ) (amount : ℕ) → SplitsDigits word digits suffix → (a : IsAmount word amount) →
    (a.digits ≡ digits) × (a.suffix ≡ suffix)
amount_parts word digits suffix amount split a =
    same_front is_ascii_digit (λ c. not (is_ascii_digit c)) (λ c. double_not (is_ascii_digit c)) a.digits a.suffix digits suffix
    (all_digits_pass a.digits a.numeral.1) (suffix_outside a.suffix a.factor a.suffix_is)
    (all_digits_pass digits split.all_digits) split.no_digit (sym a.parts ∙ split.parts)

pub no_suffix : (word digits suffix : List ℕ) → SplitsDigits word digits suffix → ((factor : ℕ) → ¬ IsSuffix suffix factor) → (amount : ℕ) →
    ¬ IsAmount word amount
no_suffix word digits suffix split refused amount a =
    let P : List ℕ → Type 0 = λ s. IsSuffix s a.factor in
    refused a.factor (subst P (amount_parts word digits suffix amount split a).1 a.suffix_is)

pub amount_of : (word digits suffix : List ℕ) (factor : ℕ) → SplitsDigits word digits suffix → 0 < length digits → IsSuffix suffix factor →
    IsAmount word (digits_value 10 digits * factor)
amount_of word digits suffix factor split some suffix_is =
    record { digits = digits; suffix = suffix; factor = factor; parts = split.parts; numeral = (some, split.all_digits); suffix_is = suffix_is; value = refl }

-- the factor makes no number less
pub number-le-amount : (suffix : List ℕ) (factor number : ℕ) → IsSuffix suffix factor → number ≤ number * factor
number-le-amount suffix factor number suffix_is = omega (arith, mul-le-mul_left number (factor_positive suffix factor suffix_is))

-- no amount, since the suffix is none
pub suffix_refused : (word digits suffix : List ℕ) (found : Option ℕ) (fault : Fault) → SplitsDigits word digits suffix →
    IfNone found ((factor : ℕ) → ¬ IsSuffix suffix factor) →
    ◌≡◌ {A = Result ℕ Fault} (Err fault) (ok_or found BadLimit) → IsAmountReading word (Err fault)
suffix_refused word digits suffix None fault split none is = let same : fault ≡ BadLimit = cc in rw same (no_suffix word digits suffix split none)
suffix_refused word digits suffix (Some factor) fault split none is = cc

-- an amount above 2^64 - 1, since its digits are
pub number_refused : (word digits suffix : List ℕ) (factor : ℕ) (found : Option ℕ) (fault : Fault) → SplitsDigits word digits suffix →
    0 < length digits → IsSuffix suffix factor →
    SomeIff found (digits_value 10 digits < 2 ^ 64) (digits_value 10 digits) → ◌≡◌ {A = Result ℕ Fault} (Err fault)
    (ok_or found BadNumber) → IsAmountReading word (Err fault)
number_refused word digits suffix factor None fault split some suffix_is found is =
    let same : fault ≡ BadNumber = cc in
    let great : 2 ^ 64 ≤ digits_value 10 digits = omega (arith, found) in
    rw same (
      digits_value 10 digits * factor,
      omega
          (arith, great, number-le-amount suffix factor (digits_value 10 digits) suffix_is),
      amount_of word digits suffix factor split some suffix_is,
    )
number_refused word digits suffix factor (Some number) fault split some suffix_is found is = cc

-- the digits times the factor, or too great an amount
pub amount_answer : (word digits suffix : List ℕ) (factor number : ℕ) (found : Option ℕ) → SplitsDigits word digits suffix → 0 < length digits →
    IsSuffix suffix factor →
    number ≡ digits_value 10 digits → SomeIff found (number * factor < 2 ^ 64) (number * factor) → IsAmountReading word (ok_or found BadNumber)
amount_answer word digits suffix factor number None split some suffix_is value found =
    (digits_value 10 digits * factor, rw (← value) (omega (arith, found)), amount_of word digits suffix factor split some suffix_is)
amount_answer word digits suffix factor number (Some amount) split some suffix_is value found =
    (rw (found.1, value) (amount_of word digits suffix factor split some suffix_is), rw found.1 found.0)
