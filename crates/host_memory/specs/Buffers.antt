-- What a buffer of the host gets of a text.
use Rattle.std.specs.Prelude.{◌≡◌, ℕ, ◌<◌, ◌≤◌, List, ◌++◌, drop, length}

-- A text of which `is_it` holds was written at the start of a buffer that has room for all of it. The rest of the
-- buffer is as before
pub record FillsBuffer (is_it : List ℕ → Type 0) (before after : List ℕ) (written : ℕ) : Type 0 where
  pub text : List ℕ
  pub is : is_it text
  pub written_is : written ≡ length text
  pub fits : written ≤ length before
  pub after_is : after ≡ text ++ drop written before

-- a text of which `is_it` holds is longer than the buffer
pub record ExceedsBuffer (is_it : List ℕ → Type 0) (buffer : List ℕ) (needed : ℕ) : Type 0 where
  pub text : List ℕ
  pub is : is_it text
  pub needed_is : needed ≡ length text
  pub exceeds : length buffer < needed

-- a text was written at the start of a buffer that has room for it; one without room stays
pub record PutsText (text : List ℕ) (old new : List ℕ) : Type 0 where
  pub fits : length text ≤ length old → new ≡ text ++ drop (length text) old
  pub exceeds : length old < length text → new ≡ old
