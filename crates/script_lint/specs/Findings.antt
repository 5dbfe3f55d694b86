-- The bad lines of a script.
use Rattle.std.specs.Prelude.{◌≡◌, ◌⊎◌, ℕ, ◌+◌, ◌-◌, ◌<◌, ◌≤◌, false, List, [], ◌∷◌, All, length, slice_get, take, Option, None, Some, ⊤}
use Rattle.std.specs.List.{AllPairs}
use Rattle.zone_blocks.specs.declared.config.Config.{Config}
use Rattle.script_lines.specs.Script.{IsGoodLine, ended_lines, has_go, longest_script, texts_of}
use Rattle.script_lint.specs.Lines.{IsGoodHere, IsSpot}
use Rattle.script_lint.specs.declared.finding.Finding.{Finding}

-- the n-th line, with its line feed, is within the bytes that a script may have
abbrev pub IsWithin : List ℕ → ℕ → Type 0
IsWithin script n = longest_script < length script → n ≤ ended_lines (take longest_script script)

-- a line that isn't good: its number, its text, and where and why it goes wrong
pub record IsFinding (sizes : Config) (script : List ℕ) (found : Finding) : Type 0 where
  pub low : 1 ≤ found.line
  pub is_text : slice_get (texts_of script) (found.line - 1) ≡ Some found.text.now
  pub bad : ¬ IsGoodLine sizes script found.line
  pub spot : IsSpot sizes (has_go (take (found.line - 1) (texts_of script))) (IsWithin script found.line) found.text.now
      found.spot

-- one of the findings has this line
abbrev pub Names : List Finding → ℕ → Type 0
Names [] n = ⊥
Names (f ∷ fs) n = (f.line ≡ n) ⊎ Names fs n

-- the first lines, up to this one, were linted: each finding is true, the lines are in order, and every line is good or
-- among them
pub record AreFindings (sizes : Config) (script : List ℕ) (count : ℕ) (findings : List Finding) : Type 0 where
  pub sound : All (λ f. IsFinding sizes script f × (f.line ≤ count)) findings
  pub in_order : AllPairs (λ f g. f.line < g.line) findings
  pub complete : (n : ℕ) → 1 ≤ n → n ≤ count → IsGoodLine sizes script n ⊎ Names findings n

-- the whole script was linted, or, if it is too long, its lines up to the first that isn't within
pub record IsLinted (sizes : Config) (script : List ℕ) (findings : List Finding) : Type 0 where
  pub count : ℕ
  pub all : (n : ℕ) → 1 ≤ n → n ≤ length (texts_of script)
      → (longest_script < length script → n ≤ ended_lines (take longest_script script) + 1)
      → n ≤ count
  pub are : AreFindings sizes script count findings

-- the text of a line goes wrong by itself, here and for this reason
pub record IsFoundInText (sizes : Config) (text : List ℕ) (found : Finding) : Type 0 where
  pub is_text : found.text.now ≡ text
  pub spot : IsSpot sizes false ⊤ text found.spot

-- the text of a line is good by itself, or goes wrong as the finding says
abbrev pub IsTextLinted : Config → (text : List ℕ) → Option Finding → Type 0
IsTextLinted sizes text None = IsGoodHere sizes false ⊤ text
IsTextLinted sizes text (Some found) = IsFoundInText sizes text found
