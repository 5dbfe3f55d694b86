-- The place of a byte in a text.
use Rattle.std.specs.Prelude.{◌≡◌, ◌≢◌, ℕ, ◌<◌, ◌≤◌, List, All, length, slice_index, take}

-- the first place in the text that has this byte
pub record IsFirstPlace (wanted : ℕ) (text : List ℕ) (place : ℕ) : Type 0 where
  pub inside : place < length text
  pub here : slice_index text place ≡ wanted
  pub before : All (λ b. b ≢ wanted) (take place text)

-- the wide text begins with this one
abbrev pub IsFrontOf : List ℕ → List ℕ → Type 0
IsFrontOf text wide = text ≡ take (length text) wide

-- the first place in the text of a byte that no path has
pub record IsPathEnd (text : List ℕ) (place : ℕ) : Type 0 where
  pub inside : place < length text
  pub here : ¬ ((32 < slice_index text place) × (slice_index text place < 127))
  pub before : All (λ b. (32 < b) × (b < 127)) (take place text)

-- the first line of the text has so many bytes: none of them is a line feed, and a line feed follows, or nothing
pub record IsLineEnd (text : List ℕ) (end : ℕ) : Type 0 where
  pub inside : end ≤ length text
  pub bytes : All (λ b. b ≢ 10) (take end text)
  pub stop : end < length text → slice_index text end ≡ 10
