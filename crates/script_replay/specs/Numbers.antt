-- The number of its script line before each line of an answer.
use Rattle.std.specs.Prelude.{◌≡◌, ℕ, Bool, false, true, List, ◌++◌, codes, decimal}
use Rattle.std.specs.List.{flat_map}
use Rattle.std.specs.Str.Lines.{lines}

-- a line after the number
abbrev pub numbered_line : ℕ → List ℕ → List ℕ
numbered_line number line = decimal number ++ (codes ": " ++ (line ++ codes "\n"))

-- the text with the number before each of its lines
abbrev pub numbered_text : ℕ → List ℕ → List ℕ
numbered_text number text = flat_map (numbered_line number) (lines text)

-- the text with the number before each of its lines, if that is asked for
abbrev pub text_with_number : (is_numbered : Bool) → ℕ → List ℕ → List ℕ
text_with_number true number text = numbered_text number text
text_with_number false number text = text

-- a text of which `is_said` holds, with the number before each of its lines if that is asked for
pub record SaysNumbered (is_numbered : Bool) (number : ℕ) (is_said : List ℕ → Type 0) (text : List ℕ) : Type 0 where
  pub plain : List ℕ
  pub so : is_said plain
  pub text_is : text ≡ text_with_number is_numbered number plain
