-- A line's part of a log: a comment that names the line, its steps, and its answer in comments.
use Rattle.std.specs.Prelude.{◌≡◌, ℕ, ◌-◌, ◌==◌, ◌&&◌, nat_le, if◌then◌else◌, Bool, false, List, [], ◌∷◌, ◌++◌}
use Rattle.std.specs.Prelude.{Result, IfOk, codes, decimal, flat_map, length, map, take}
use Rattle.step_rules.specs.After.{Run}
use Rattle.step_watch.specs.Watched.{IsNewLog, KnownWatch, steps_text}
use Rattle.log_lines.specs.Line.{longest_log_line}
use Rattle.script_lines.specs.declared.line.Line.{Line}
use Rattle.script_lines.specs.declared.line.Line.TheVariants.{Go, At}
use Rattle.script_lines.specs.Script.{texts_of}
use Rattle.script_replay.specs.{locked_with_watch, ServesLine, SystemState, system_state}
use Rattle.script_replay.specs.Terms.{Terms}

-- ---- comments

-- a byte of a comment: one outside 32 to 126 is shown as `?`
abbrev pub printed : ℕ → ℕ
printed byte = if nat_le 32 byte && nat_le byte 126 then byte else 63

-- a comment of this text, which is cut to the most bytes of a line
abbrev pub comment : List ℕ → List ℕ
comment text = take longest_log_line (map printed text) ++ 10 ∷ []

-- `# line N: `
abbrev pub line_front : ℕ → List ℕ
line_front number = codes "# line " ++ (decimal number ++ codes ": ")

-- the comment before the steps of a line with this text; `go` makes no step, and has none
abbrev pub line_comment : (text : List ℕ) → Line → List ℕ
line_comment text Go = []
line_comment text (At number cpu command) = comment (line_front number ++ text)

-- whether a line of an answer is one of its explanation: it begins with `#`
abbrev pub is_explanation : List ℕ → Bool
is_explanation [] = false
is_explanation (byte ∷ bytes) = byte == 35

-- the comment of a line of an answer: an explanation is one as it is, any other line has `# = ` before it
abbrev pub answer_comment : List ℕ → List ℕ
answer_comment line = if is_explanation line then comment line else comment (codes "# = " ++ line)

-- the comments of texts between line feeds; what follows the last line feed is no line
abbrev pub comments_of : List (List ℕ) → List ℕ
comments_of texts = flat_map answer_comment (take (length texts - 1) texts)

-- the comments of an answer, whose lines each end with a line feed
abbrev pub answer_comments : List ℕ → List ℕ
answer_comments answer = comments_of (texts_of answer)

-- ---- a line

-- the state with a new watch, which writes a log of the steps from here on
pub record RenewsWatch (before begun : SystemState) : Type 0 where
  pub watch : KnownWatch
  pub is_new : IsNewLog watch
  pub begun_is : begun ≡ system_state (locked_with_watch before.locked watch) before.cpus

-- a line with this text was served by these steps and has this answer: its part of the log
abbrev pub line_log : (text : List ℕ) → Line → (steps : Run) → (answer : List ℕ) → List ℕ
line_log text line steps answer = line_comment text line ++ (steps_text steps ++ answer_comments answer)

-- A line with this text is served, with a watch that is new for it. Its part of the log is its comment, the steps by
-- which it is served, and what it is answered.
pub record LogsLine (terms : Terms) (text : List ℕ) (line : Line) (before after : SystemState) (log : List ℕ)
    : Type 0 where
  pub begun : SystemState
  pub renews : RenewsWatch before begun
  pub answer : List ℕ
  pub serves : ServesLine terms line begun after answer
  pub log_is : log ≡ line_log text line serves.steps answer

-- A call that adds to a log. There is a part of it of which `is_part` holds, whether or not memory was available for
-- it. If the call succeeds, that part was added.
pub record AddsPart {T E : Type 0} (result : Result T E) (old new : List ℕ) (is_part : List ℕ → Type 0) : Type 0 where
  pub part : List ℕ
  pub so : is_part part
  pub added : IfOk result (λ _. new ≡ old ++ part)
