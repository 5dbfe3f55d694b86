-- How far a check reads a log.
use Rattle.std.specs.Prelude.{◌≡◌, ◌≢◌, ℕ, ◌<◌, ◌≤◌, List, ◌++◌, Option, All, length, ⊤}
use Rattle.std.specs.Io.KnownBytes.{Consumes, IsAtEnd}
use Rattle.log_lines.specs.{longest_log_line, AreLinesOf}
use Rattle.log_check.specs.declared.verdict.LogVerdict.{LogVerdict}
use Rattle.log_check.specs.declared.verdict.LogVerdict.TheVariants.{Legal, NotLegal, LeftOut, BadLine}

-- the most bytes of one read
abbrev pub longest_piece : ℕ
longest_piece = 4096

-- the text is fewer than `line` lines, and then a beginning of the next one, no longer than a line may be
pub record EndsBefore (line : ℕ) (text : List ℕ) : Type 0 where
  pub front : List ℕ
  pub rest : List ℕ
  pub parts : text ≡ front ++ rest
  pub texts : List (List ℕ)
  pub cut : AreLinesOf front texts
  pub few : length texts < line
  pub no_feed : All (λ b. b ≢ 10) rest
  pub short : length rest ≤ longest_log_line

-- at most one piece was read after a text that ends before this line does
pub record ReadsUpTo (line : ℕ) (before after : Option (List ℕ)) : Type 0 where
  pub text : List ℕ
  pub piece : List ℕ
  pub early : EndsBefore line text
  pub short : length piece ≤ longest_piece
  pub taken : Consumes before after (text ++ piece)

-- how far a check reads: up to the first step that isn't legal, if it stops there, up to the first bad line, or to the
-- end
abbrev pub ReadsAsFar : LogVerdict → (before after : Option (List ℕ)) → Type 0
ReadsAsFar (Legal steps free end) before after = IsAtEnd after
ReadsAsFar (NotLegal illegal) before after = ReadsUpTo illegal.line before after
ReadsAsFar (LeftOut steps count first) before after = IsAtEnd after
ReadsAsFar (BadLine line fault) before after = ReadsUpTo line before after

-- the check stops at a line that comes after so many, if it stops at a line
abbrev pub StopsAfter : ℕ → LogVerdict → Type 0
StopsAfter lines (Legal steps free end) = ⊤
StopsAfter lines (LeftOut steps count first) = ⊤
StopsAfter lines (NotLegal illegal) = lines < illegal.line
StopsAfter lines (BadLine line fault) = lines < line

-- the check stops at a line that comes after so many
abbrev pub NamesLineAfter : ℕ → LogVerdict → Type 0
NamesLineAfter lines (Legal steps free end) = ⊥
NamesLineAfter lines (NotLegal illegal) = lines < illegal.line
NamesLineAfter lines (LeftOut steps count first) = ⊥
NamesLineAfter lines (BadLine line fault) = lines < line
