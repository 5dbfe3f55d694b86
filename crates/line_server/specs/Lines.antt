-- The lines of a session, and what a bad one is answered.
use Rattle.std.specs.Prelude.{◌≡◌, ◌⊎◌, ℕ, ◌<◌, ◌≤◌, Bool, true, false, List, [], Option, None, Some, IfSome, codes, length, nat_eq}
use Rattle.std.specs.Cmp.Lexicographic.{pointwise}
use Rattle.std.specs.Io.BufRead.{DropsThrough}
use Rattle.zone_blocks.specs.declared.config.Config.{Config}
use Rattle.script_lint.specs.{IsFoundInText, cause_text}
use Rattle.script_lint.specs.declared.finding.Finding.{Finding}
use Rattle.line_server.specs.Streams.{first_text}
use Rattle.script_lines.specs.Script.{longest_line}
use Rattle.line_server.specs.declared.form.SessionForm.{SessionForm}
use Rattle.line_server.specs.declared.input_line.InputLine.{InputLine}
use Rattle.line_server.specs.declared.input_line.InputLine.TheVariants as input_line
use Rattle.line_server.specs.Forms.{bad_line_answer}

-- ---- what is read
-- whether a line ends the session
abbrev pub is_quit : List ℕ → Bool
is_quit text = pointwise nat_eq text (codes "quit")

-- the text of a line; None if the line is too long
abbrev pub text_of : InputLine → Option (List ℕ)
text_of (input_line.Text text) = Some text.items
text_of input_line.TooLong = None

-- the first line of these bytes has this text, and isn't `quit`; or it is too long
abbrev pub IsFirstLine : (bytes : List ℕ) → (text : Option (List ℕ)) → Type 0
IsFirstLine bytes None = longest_line < length (first_text bytes)
IsFirstLine bytes (Some text) =
    (1 ≤ length bytes) × (text ≡ first_text bytes) × (length text ≤ longest_line) × (is_quit text ≡ false)

-- known bytes begin with this line and its line feed, and lose them
pub record ReadsLine (text : Option (List ℕ)) (before after : Option (List ℕ)) : Type 0 where
  pub first : IfSome before (λ bytes. IsFirstLine bytes text)
  pub rest : DropsThrough before after 10

-- a session ends at these bytes: there are none, or the first line is `quit`
abbrev pub EndsAt : (bytes : List ℕ) → Type 0
EndsAt bytes = (bytes ≡ []) ⊎ (is_quit (first_text bytes) ≡ true)

-- what was read of known bytes: the end of the session, or the first line
abbrev pub ReadsInputLine : (before after : Option (List ℕ)) → Option InputLine → Type 0
ReadsInputLine before after None = IfSome before EndsAt
ReadsInputLine before after (Some line) = ReadsLine (text_of line) before after

-- ---- a bad line
-- the answer says why the line is bad by itself
pub record RefusesText (form : SessionForm) (sizes : Config) (text answer : List ℕ) : Type 0 where
  pub found : Finding
  pub is_found : IsFoundInText sizes text found
  pub answer_is : answer ≡ bad_line_answer form (cause_text sizes found found.spot.cause)
