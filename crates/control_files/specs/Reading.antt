-- What the parts of the reader of limits answer.
use Rattle.std.specs.Prelude.{◌≡◌, ◌≢◌, ℕ, ◌^◌, ◌<◌, ◌≤◌, ⊤, Bool, false, not, IsTrue, Option, Some, None, Result, Ok, Err, List, [], ◌∷◌, ◌++◌}
use Rattle.std.specs.Char.{is_ascii_digit}
use Rattle.std.specs.List.{list_all}
use Rattle.std.specs.Str.Parse.{AllDigits}
use Rattle.group_tree.specs.declared.fault.Fault.{Fault}
use Rattle.group_tree.specs.declared.fault.Fault.TheVariants.{BadLimit, BadNumber}
use Rattle.control_files.specs.Limit.{is_space, AreSpaces, IsAmount, ReadsAmount, ReadsAs, IsTooGreat, IsNoAmountText, IsNoLimitText}

-- none of the bytes is white space
abbrev pub HasNoSpace : List ℕ → Type 0
HasNoSpace bytes = IsTrue (list_all (λ byte. not (is_space byte)) bytes)

-- the text is this word between white space
pub record HasOnlyWord (text word : List ℕ) : Type 0 where
  pub before : List ℕ
  pub after : List ℕ
  pub parts : text ≡ before ++ (word ++ after)
  pub spaces_before : AreSpaces before
  pub spaces_after : AreSpaces after
  pub no_space : HasNoSpace word
  pub some_byte : word ≢ []

-- the one word of the text, or None if it has not exactly one
abbrev pub IsOnlyWord : List ℕ → Option (List ℕ) → Type 0
IsOnlyWord text None = (word : List ℕ) → ¬ HasOnlyWord text word
IsOnlyWord text (Some word) = HasOnlyWord text word

-- the list is empty, or its first byte does not pass the test
abbrev pub BeginsOutside : (ℕ → Bool) → List ℕ → Type 0
BeginsOutside passes [] = ⊤
BeginsOutside passes (byte ∷ bytes) = passes byte ≡ false

-- the digits that begin a word, and the bytes after them
pub record SplitsDigits (word digits suffix : List ℕ) : Type 0 where
  pub parts : word ≡ digits ++ suffix
  pub all_digits : AllDigits 10 digits
  pub no_digit : BeginsOutside is_ascii_digit suffix

-- the amount that the word writes, or why there is none
abbrev pub IsAmountReading : List ℕ → Result ℕ Fault → Type 0
IsAmountReading word (Ok amount) = IsAmount word amount × (amount < 2 ^ 64)
IsAmountReading word (Err BadNumber) = (amount : ℕ) × (2 ^ 64 ≤ amount) × IsAmount word amount
IsAmountReading word (Err BadLimit) = (amount : ℕ) → ¬ IsAmount word amount
IsAmountReading word (Err _) = ⊥

-- the limit that the text writes, or why there is none
abbrev pub IsReading : List ℕ → Result (Option ℕ) Fault → Type 0
IsReading text (Ok limit) = ReadsAs text limit
IsReading text (Err BadNumber) = IsTooGreat text
IsReading text (Err BadLimit) = IsNoLimitText text
IsReading text (Err _) = ⊥

-- the pages of the amount that the text writes, or why there are none
abbrev pub IsPagesReading : List ℕ → Result ℕ Fault → Type 0
IsPagesReading text (Ok pages) = ReadsAmount text pages
IsPagesReading text (Err BadNumber) = IsTooGreat text
IsPagesReading text (Err BadLimit) = IsNoAmountText text
IsPagesReading text (Err _) = ⊥
