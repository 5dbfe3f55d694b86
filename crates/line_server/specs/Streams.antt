-- The lines of an input.
use Rattle.std.specs.Prelude.{◌≡◌, ℕ, ◌<◌, ◌≤◌, ◌==◌, List, [], ◌∷◌, Option, None, Some, IfSome, if◌then◌else◌, length}
use Rattle.std.specs.Io.BufRead.{DropsThrough}
use Rattle.std.specs.Io.KnownBytes.{Consumes, IsAtEnd}
use Rattle.line_server.specs.declared.reading.Found.{Found}
use Rattle.line_server.specs.declared.reading.Found.TheVariants.{Line, TooLong, End}
use Rattle.script_lines.specs.Script.{longest_line}

-- the bytes before the first line feed, or all of them
abbrev pub first_text : List ℕ → List ℕ
first_text [] = []
first_text (b ∷ bs) = if b == 10 then [] else b ∷ first_text bs

-- what a read of a line finds in these bytes, and the text of the line
abbrev pub IsFound : (bytes : List ℕ) → Found → (text : List ℕ) → Type 0
IsFound bytes Line text = (1 ≤ length bytes) × (text ≡ first_text bytes) × (length text ≤ longest_line)
IsFound bytes TooLong text = (longest_line < length (first_text bytes)) × (text ≡ [])
IsFound bytes End text = bytes ≡ []

-- known bytes begin with this byte, and lose it; or there are none
abbrev pub TakesByte : (before after : Option (List ℕ)) → Option ℕ → Type 0
TakesByte before after None = Consumes before after [] × IsAtEnd before
TakesByte before after (Some byte) = Consumes before after (byte ∷ [])

-- a line of `old` ends before what is read: nothing of its text follows, and it is kept; or more follows, and nothing
-- is kept
abbrev pub EndsLine : (before after : Option (List ℕ)) → Found → (old new : List ℕ) → Type 0
EndsLine before after Line old new =
    (new ≡ old) × IfSome before (λ bytes. first_text bytes ≡ []) × DropsThrough before after 10
EndsLine before after TooLong old new =
    (new ≡ []) × IfSome before (λ bytes. 1 ≤ length (first_text bytes)) × DropsThrough before after 10
EndsLine before after End old new = ⊥
