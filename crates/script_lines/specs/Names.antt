-- The names of commands as numbers.
use Rattle.std.specs.Prelude.{◌≡◌, ◌≢◌, ℕ, Bool, true, not, ◌&&◌, ◌==◌, ◌+◌, ◌*◌, ◌<◌, ◌≤◌, List, [], ◌∷◌, All, length, nat_lt, slice_index, take}

-- the number that begins with these digits and goes on with these bytes, to the base 256
abbrev pub code_from : ℕ → List ℕ → ℕ
code_from digits [] = digits
code_from digits (b ∷ bs) = code_from (digits * 256 + b) bs

-- the number of a name: 124, and then its bytes, as digits to the base 256
abbrev pub code_of : List ℕ → ℕ
code_of name = code_from 124 name

-- how many bytes the longest name of a command has
abbrev pub longest_command_name : ℕ
longest_command_name = 7

-- how many bytes are read as one number
abbrev pub bytes_at_once : ℕ
bytes_at_once = 8

-- whether each of the text is a byte, and none is a space
abbrev pub is_word : List ℕ → Bool
is_word [] = true
is_word (b ∷ bs) = not (b == 32) && (nat_lt b 256 && is_word bs)

-- the first word of the text has so many bytes: none of them is a space, and a space follows, or nothing
pub record IsWordEnd (text : List ℕ) (end : ℕ) : Type 0 where
  pub inside : end ≤ length text
  pub bytes : All (λ b. (b ≢ 32) × (b < 256)) (take end text)
  pub stop : end < length text → slice_index text end ≡ 32
