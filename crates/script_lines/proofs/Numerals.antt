-- Decimal digits, one after the other.
use Rattle.std.proofs.Common.{◌≡◌, ℕ, zero, suc, ◌+◌, ◌*◌, ◌^◌, ◌<◌, ◌≤◌, List, [], ◌∷◌, length, get_or, take, Option, None, arith, subst, sym, ap, ◌∙◌, ◌≢◌, ◌⊎◌, inl, inr}
use Rattle.std.proofs.Math.Nat.{pow-le-pow_right}
use Rattle.std.proofs.Math.Seq.{get_or-append_seam}
use Rattle.std.proofs.lemmas.List.{get_or-take, get_or_append_left, length-take-le, take-append-le}
use Rattle.std.proofs.lemmas.Int.Digits.{digits_value-lt, digits_value_more}
use Rattle.std.proofs.lemmas.Str.Parse.{digits_value-take-le}
use Rattle.std.specs.Char.{digit_value}
use Rattle.std.specs.Option.{SomeIff}
use Rattle.std.specs.Str.Parse.{AllDigits, IsNumeral, digits_value}
use Rattle.script_lines.specs.Script.{IsCut}
use Rattle.script_lines.proofs.Cuts.{digits_no_space}

-- nothing is answered where the fact doesn't hold
pub none_unless : {T : Type 0} (r : Option T) (P : Type 0) (v : T) → r ≡ None → ¬ P → SomeIff r P v
none_unless {T} r P v is_none not_so = let F : Option T → Type 0 = λ o. SomeIff o P v in subst F (sym is_none) not_so

-- each of the digits is a digit
digit_at : (ds : List ℕ) (i : ℕ) → i < length ds → AllDigits 10 ds → digit_value (get_or ds i 0) < 10
digit_at [] i h a = absurd (omega arith)
digit_at (d ∷ ds) zero h a = a.0
digit_at (d ∷ ds) (suc i) h a = digit_at ds i (omega arith) a.1

-- a byte that is no digit stands in no numeral
pub no_numeral : (ds : List ℕ) (i b : ℕ) → i < length ds → b ≡ get_or ds i 0 → ¬ (digit_value b < 10) → ¬ (IsNumeral 10 ds × (digits_value 10 ds < 2 ^ 32))
no_numeral ds i b h e not_so all = not_so (rw e (digit_at ds i h all.0.1))

-- where the first digits write a number that is too great with the next, so do all
pub too_great : (ds : List ℕ) (i v d : ℕ) → i < length ds → digits_value 10 (take i ds) ≡ v
    → d ≤ digit_value (get_or ds i 0) → ¬ (v * 10 + d < 2 ^ 32) → ¬ (IsNumeral 10 ds × (digits_value 10 ds < 2 ^ 32))
too_great ds i v d h is_v is_d not_so all =
    let more = digits_value_more 10 ds i h in
    let le = digits_value-take-le 10 ds (i + 1) (omega arith) in
    let all_below : digits_value 10 ds < 2 ^ 32 = all.1 in
    let sum : v * 10 + d < 2 ^ 32 = omega arith in
    not_so sum

-- the digits before the last of nine write a small number
pub few_digits : (ds : List ℕ) (i : ℕ) → i < length ds → length ds ≤ 9 → AllDigits 10 (take i ds) → digits_value 10 (take i ds) < 10 ^ 8
few_digits ds i h few all =
    let taken = length-take-le i ds (omega arith) in
    let below = digits_value-lt 10 (take i ds) all in
    let most : 10 ^ length (take i ds) ≤ 10 ^ 8 = pow-le-pow_right {n = 10} (omega arith) {i = length (take i ds)} {j = 8} (omega arith) in
    omega arith

-- which of two is the greater
in_order : (m n : ℕ) → (m < n) ⊎ (n ≤ m)
in_order m zero = inr (omega arith)
in_order zero (suc n) = inl (omega arith)
in_order (suc m) (suc n) = elim (in_order m n) [
  | inl h ↦ inl (omega arith)
  | inr h ↦ inr (omega arith)
]

-- digits with no space after them are not yet the whole word
pub goes_on : (text word rest : List ℕ) (end : ℕ) → IsCut text word rest → end < length text → get_or text end 0 ≢ 32
    → AllDigits 10 (take end text) → end < length word
goes_on text word rest end cut inside other digits =
    let here : get_or text (length word) 0 ≡ 32 = rw cut.parts (get_or-append_seam word 32 rest 0) in
    elim (in_order end (length word)) [
      | inl h ↦ h
      | inr h ↦ elim (in_order (length word) end) [
        | inl less ↦
            let taken = length-take-le end text (omega arith) in
            absurd (digits_no_space (take end text) digits (length word) 0 (omega arith) (get_or-take end text (length word) 0 less ∙ here))
        | inr more ↦ let same : length word ≡ end = omega arith in absurd (other (sym (ap (λ n. get_or text n 0) same) ∙ here))
      ]
    ]

-- a byte of the word is a byte of the text
pub byte_of_word : (text word rest : List ℕ) (end : ℕ) → IsCut text word rest → end < length word → get_or text end 0 ≡ get_or word end 0
byte_of_word text word rest end cut h = ap (λ t. get_or t end 0) cut.parts ∙ get_or_append_left word (32 ∷ rest) 0 end h

-- and so are the first bytes
pub front_of_word : (text word rest : List ℕ) (end : ℕ) → IsCut text word rest → end < length word → take end text ≡ take end word
front_of_word text word rest end cut h = ap (take end) cut.parts ∙ take-append-le end word (32 ∷ rest) (omega arith)
