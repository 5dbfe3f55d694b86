-- The text of a limit (cgroup-v2.rst, memory.max): an amount of bytes, or `max` for none.
--
--     limit  = space* ( "max" | amount ) space*
--     amount = digit+ suffix?
--     suffix = one of K M G T P E in either case
use Rattle.std.specs.Prelude.{◌≡◌, ℕ, ◌*◌, ◌^◌, ◌<◌, ◌≤◌, ◌==◌, ◌&&◌, ◌||◌, nat_lt, nat_le, Bool, IsTrue, Option, Some}
use Rattle.std.specs.Prelude.{None, List, [], ◌∷◌, ◌++◌, if◌then◌else◌, codes, ⊤}
use Rattle.std.specs.Char.{to_ascii_uppercase}
use Rattle.std.specs.Int.{div_ceil}
use Rattle.std.specs.List.{list_all}
use Rattle.std.specs.Str.Parse.{IsNumeral, digits_value}

-- how many bytes a page has (PAGE_SIZE of x86-64 Linux)
abbrev pub page_bytes : ℕ
page_bytes = 4096

-- a space, or a tab, a line feed, a vertical tab, a form feed or a carriage return (9 to 13)
abbrev pub is_space : ℕ → Bool
is_space byte = byte == 32 || (nat_le 9 byte && nat_le byte 13)

-- the bytes are all white space
abbrev pub AreSpaces : List ℕ → Type 0
AreSpaces bytes = IsTrue (list_all is_space bytes)

-- what the letters K, M, G, T, P and E multiply an amount by: the powers of 1024
unfoldable pub factor_of : ℕ → Option ℕ
factor_of letter =
    if letter == 75 then Some (1024 ^ 1)
    else (if letter == 77 then Some (1024 ^ 2)
    else (if letter == 71 then Some (1024 ^ 3)
    else (if letter == 84 then Some (1024 ^ 4)
    else (if letter == 80 then Some (1024 ^ 5)
    else (if letter == 69 then Some (1024 ^ 6)
    else None)))))

-- no suffix, or one of those letters in either case, with what it multiplies by
abbrev pub IsSuffix : List ℕ → ℕ → Type 0
IsSuffix [] factor = factor ≡ 1
IsSuffix (letter ∷ []) factor = factor_of (to_ascii_uppercase letter) ≡ Some factor
IsSuffix (letter ∷ byte ∷ bytes) factor = ⊥

-- one or more decimal digits, and a suffix; the amount is in bytes
pub record IsAmount (word : List ℕ) (amount : ℕ) : Type 0 where
  pub digits : List ℕ
  pub suffix : List ℕ
  pub factor : ℕ
  pub parts : word ≡ digits ++ suffix
  pub numeral : IsNumeral 10 digits
  pub suffix_is : IsSuffix suffix factor
  pub value : amount ≡ digits_value 10 digits * factor

-- `max` has the value None, no limit; an amount has its bytes
abbrev pub IsLimitWord : List ℕ → Option ℕ → Type 0
IsLimitWord word None = word ≡ codes "max"
IsLimitWord word (Some amount) = IsAmount word amount

-- a text in the grammar, with its value: bytes, or None for no limit
pub record IsLimitText (text : List ℕ) (value : Option ℕ) : Type 0 where
  pub before : List ℕ
  pub word : List ℕ
  pub after : List ℕ
  pub parts : text ≡ before ++ (word ++ after)
  pub spaces_before : AreSpaces before
  pub spaces_after : AreSpaces after
  pub word_is : IsLimitWord word value

-- whole pages, rounded up; 2^32 pages and more are no limit
abbrev pub pages_covering : Option ℕ → Option ℕ
pages_covering None = None
pages_covering (Some amount) =
    if nat_lt (div_ceil amount page_bytes) (2 ^ 32) then Some (div_ceil amount page_bytes) else None

-- no limit, or an amount of at most 2^64 - 1 bytes
abbrev pub IsInRange : Option ℕ → Type 0
IsInRange None = ⊤
IsInRange (Some amount) = amount < 2 ^ 64

-- the text is in the grammar, its value is not too great, and the limit is that value in pages
pub record ReadsAs (text : List ℕ) (limit : Option ℕ) : Type 0 where
  pub value : Option ℕ
  pub grammar : IsLimitText text value
  pub in_range : IsInRange value
  pub pages : limit ≡ pages_covering value

-- the text is in the grammar, and its amount is above 2^64 - 1 bytes
abbrev pub IsTooGreat : List ℕ → Type 0
IsTooGreat text = (amount : ℕ) × (2 ^ 64 ≤ amount) × IsLimitText text (Some amount)

-- the text is in the grammar and writes an amount that is not too great; `pages` is that amount in whole pages, rounded
-- up
pub record ReadsAmount (text : List ℕ) (pages : ℕ) : Type 0 where
  pub amount : ℕ
  pub grammar : IsLimitText text (Some amount)
  pub in_range : amount < 2 ^ 64
  pub pages_are : pages ≡ div_ceil amount page_bytes

-- the text writes no amount: it is not in the grammar, or it is `max`
abbrev pub IsNoAmountText : List ℕ → Type 0
IsNoAmountText text = (amount : ℕ) → ¬ IsLimitText text (Some amount)

-- the text is not in the grammar
abbrev pub IsNoLimitText : List ℕ → Type 0
IsNoLimitText text = (value : Option ℕ) → ¬ IsLimitText text value
