-- What a line is answered in a session.
use Rattle.std.specs.Prelude.{◌≡◌, ◌⊎◌, ℕ, true, false, List, [], ◌∷◌, ◌++◌, Option, None, Some, Result, IfOk, Vec, codes}
use Rattle.zone_blocks.specs.declared.config.Config.{Config}
use Rattle.boot_words.specs.Tables.{KnownTable}
use Rattle.script_lines.specs.Script.{IsLineText, is_skipped}
use Rattle.script_lines.specs.declared.line.Line.{Line}
use Rattle.script_replay.specs.{ServesLine, SystemState, terms}
use Rattle.line_server.specs.declared.form.SessionForm.{SessionForm}
use Rattle.line_server.specs.declared.form.SessionForm.TheVariants.{Answers, Steps}
use Rattle.line_server.specs.Forms.{SessionTerms, bad_line_answer}
use Rattle.line_server.specs.Lines.{RefusesText}
use Rattle.line_server.specs.Logs.{LogsLine}

-- A line of a session: its text, or None if it was too long; the line of a script that was served for it, if any; and
-- its answer, without the empty line after it. If the session writes a log, the answer is the line's part of that.
pub record Turn : Type 0 where
  pub text : Option (List ℕ)
  pub served : Option Line
  pub answer : List ℕ

-- a line with this text is served, and has this answer in this form
abbrev pub ServesInForm : SessionForm → KnownTable → (text : List ℕ) → Line
    → (before after : SystemState) → (answer : List ℕ) → Type 0
ServesInForm (Answers is_explained) frames text line before after answer =
    ServesLine (terms frames is_explained) line before after answer
ServesInForm Steps frames text line before after answer =
    LogsLine (terms frames true) text line before after answer

-- the same on these terms
abbrev pub AnswersServed : SessionTerms → (text : List ℕ) → Line → (before after : SystemState) → (answer : List ℕ)
    → Type 0
AnswersServed on text line before after answer =
    ServesInForm on.form on.table text line before after answer

-- Nothing is served: the line is empty or a comment, and has no answer; or it is bad, and the answer says why.
abbrev pub AnswersUnserved : SessionForm → Config → (text answer : List ℕ) → Type 0
AnswersUnserved form sizes text answer =
    ((is_skipped text ≡ true) × (answer ≡ [])) ⊎ ((is_skipped text ≡ false) × RefusesText form sizes text answer)

-- the line of this number and with this text has this answer: that of the line of a script, which is served; or nothing
-- is served
abbrev pub AnswersText : SessionTerms → Config → (number : ℕ) (text : List ℕ) → (served : Option Line)
    → (before after : SystemState) → (answer : List ℕ) → Type 0
AnswersText on sizes number text None before after answer =
    (after ≡ before) × AnswersUnserved on.form sizes text answer
AnswersText on sizes number text (Some line) before after answer =
    IsLineText sizes number line text × AnswersServed on text line before after answer

-- the same for a line that may be too long
abbrev pub AnswersLine : SessionTerms → Config → (number : ℕ) (text : Option (List ℕ)) → (served : Option Line)
    → (before after : SystemState) → (answer : List ℕ) → Type 0
AnswersLine on sizes number None served before after answer =
    (served ≡ None) × (after ≡ before) × (answer ≡ bad_line_answer on.form (codes "line too long"))
AnswersLine on sizes number (Some text) served before after answer =
    AnswersText on sizes number text served before after answer

-- the line of the turn, which has this number, has the answer of the turn
abbrev pub AnswersTurn : SessionTerms → Config → (number : ℕ) → Turn → (before after : SystemState) → Type 0
AnswersTurn on sizes number turn before after =
    AnswersLine on sizes number turn.text turn.served before after turn.answer

-- what is written for a turn: its answer, and an empty line
abbrev pub turn_text : Turn → List ℕ
turn_text turn = turn.answer ++ 10 ∷ []

-- the line of this number and with this text has this answer
pub record HasAnswer (on : SessionTerms) (sizes : Config) (number : ℕ) (text : Option (List ℕ))
    (before after : SystemState) (answer : List ℕ) : Type 0 where
  pub served : Option Line
  pub answered : AnswersLine on sizes number text served before after answer

-- the line of this number and with this text was answered, and this is what is to be written
pub record WritesTurn (on : SessionTerms) (sizes : Config) (number : ℕ) (text : Option (List ℕ))
    (before after : SystemState) (written : List ℕ) : Type 0 where
  pub turn : Turn
  pub text_is : turn.text ≡ text
  pub answered : AnswersTurn on sizes number turn before after
  pub written_is : written ≡ turn_text turn

-- A call that gives an answer. There is an answer of which `is_answer` holds, whether or not memory was available for
-- it. If the call succeeds, it gives that.
pub record GivesAnswer {Z E : Type 0} (result : Result (Vec ℕ Z) E) (is_answer : List ℕ → Type 0) : Type 0 where
  pub answer : List ℕ
  pub so : is_answer answer
  pub given : IfOk result (λ found. found.items ≡ answer)

-- a line was served
pub record ServesSome (on : SessionTerms) (before after : SystemState) : Type 0 where
  pub text : List ℕ
  pub line : Line
  pub answer : List ℕ
  pub serves : AnswersServed on text line before after answer

-- nothing was done, or a line was served
abbrev pub ServesAtMost : SessionTerms → (before after : SystemState) → Type 0
ServesAtMost on before after = (after ≡ before) ⊎ ServesSome on before after
