-- What a live boot does when it is given a script.
use Rattle.std.specs.Prelude.{◌≡◌, ◌⊎◌, ℕ, Bool, List, []}
use Rattle.zone_blocks.specs.declared.config.Config.{Config}
use Rattle.boot_words.specs.Tables.{KnownTable}
use Rattle.script_lines.specs.declared.line.Line.{Line}
use Rattle.script_lines.specs.declared.fault.ScriptFault.{ScriptFault}
use Rattle.script_lines.specs.declared.fault.ScriptFault.TheVariants.{BadLine, NoMemory}
use Rattle.script_lines.specs.Script.{IsFirstBadLine, IsScript}
use Rattle.script_replay.specs.Lines.{ServesAll, StopsAt, SystemState}
use Rattle.script_replay.specs.Terms.{Terms, terms}
use Rattle.tempolemon_c.specs.Known.{KnownLive}

-- the text is a script for these sizes, its lines are replayed from the state before to the state after, and these are
-- their answers
pub record ReplaysText (terms : Terms) (sizes : Config) (text : List ℕ) (before after : SystemState)
    (answers : List ℕ) : Type 0 where
  pub lines : List Line
  pub script : IsScript sizes text lines
  pub served : ServesAll terms lines before after answers

-- the text is a script for these sizes, and memory ran out for the answer of one of its lines
pub record StopsText (terms : Terms) (sizes : Config) (text : List ℕ) (before after : SystemState) : Type 0 where
  pub lines : List Line
  pub script : IsScript sizes text lines
  pub stops : StopsAt (ServesAll terms) lines before after

-- Why a script has no answers, and what was done. A bad line changes nothing. If memory runs out, either nothing is
-- changed, or the lines up to one were served.
abbrev pub FailsText : Terms → Config → (text : List ℕ) (before after : SystemState) → ScriptFault → Type 0
FailsText terms sizes text before after (BadLine number) = (after ≡ before) × IsFirstBadLine sizes text number
FailsText terms sizes text before after NoMemory = (after ≡ before) ⊎ StopsText terms sizes text before after

-- all but the state is as before
pub record SameButState (before after : KnownLive) : Type 0 where
  pub sizes : after.sizes ≡ before.sizes
  pub unread_answer : after.unread_answer ≡ before.unread_answer

-- the boot with this unread answer
abbrev pub with_unread_answer : KnownLive → List ℕ → KnownLive
with_unread_answer live text = record live { unread_answer = text }

-- the unread answer was taken, and none is left
pub record TakesUnreadAnswer (before after : KnownLive) (text : List ℕ) : Type 0 where
  pub text_is : text ≡ before.unread_answer
  pub after_is : after ≡ with_unread_answer before []

-- the text is a script, and its lines are replayed
pub record AnswersScript (frames : KnownTable) (text : List ℕ) (is_explained : Bool)
    (answers : List ℕ) (from to : KnownLive) : Type 0 where
  pub replays : ReplaysText (terms frames is_explained) from.sizes text from.state to.state answers
  pub rest : SameButState from to

-- the first bad line of the text is this, and nothing is done
pub record RefusesScript (text : List ℕ) (number : ℕ) (from to : KnownLive) : Type 0 where
  pub first_bad : IsFirstBadLine from.sizes text number
  pub stays : to ≡ from

-- memory ran out before the first line, or for the answer of a line that was served
pub record RunsOut (frames : KnownTable) (text : List ℕ) (is_explained : Bool)
    (from to : KnownLive) : Type 0 where
  pub served : (to.state ≡ from.state)
      ⊎ StopsText (terms frames is_explained) from.sizes text from.state to.state
  pub rest : SameButState from to

-- why a script has no answers, and what was done
abbrev pub FailsScript : (frames : KnownTable) (text : List ℕ) (is_explained : Bool)
    (from to : KnownLive) → ScriptFault → Type 0
FailsScript frames text is_explained from to (BadLine number) = RefusesScript text number from to
FailsScript frames text is_explained from to NoMemory = RunsOut frames text is_explained from to
