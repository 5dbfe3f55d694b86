-- The history of a session's turns: what their steps are, and what holds after each line that was served.
use Rattle.std.specs.Prelude.{ℕ, ◌+◌, List, [], ◌∷◌, ◌++◌, Option, None, Some, IfSome}
use Rattle.zone_blocks.specs.declared.config.Config.{Config}
use Rattle.step_rules.specs.After.{Run, IsLegalRun}
use Rattle.boot_words.specs.{zone_of_boot, KnownTable}
use Rattle.mem_machine.specs.{AgreesWithRun}
use Rattle.mem_history.specs.Whole.{GoesOnTo, ShowsAll}
use Rattle.mem_system.specs.Cpus.{parts_of}
use Rattle.script_lines.specs.declared.line.Line.{Line}
use Rattle.script_replay.specs.{KeepsPromise, SystemState}
use Rattle.line_server.specs.declared.form.SessionForm.{SessionForm}
use Rattle.line_server.specs.declared.form.SessionForm.TheVariants.{Answers, Steps}
use Rattle.line_server.specs.Forms.{SessionTerms}
use Rattle.line_server.specs.Sessions.{AnswersTurns}
use Rattle.line_server.specs.Turns.{AnswersLine, ServesInForm, Turn}

-- the steps by which a line is served in this form
abbrev pub steps_in_form : (form : SessionForm) (frames : KnownTable) (text : List ℕ) (line : Line)
    (before after : SystemState) (answer : List ℕ) → ServesInForm form frames text line before after answer → Run
steps_in_form (Answers is_explained) frames text line before after answer serves = serves.steps
steps_in_form Steps frames text line before after answer logs = logs.serves.steps

-- the steps of a turn: none if no line was served
abbrev pub steps_of_turn : (on : SessionTerms) (sizes : Config) (number : ℕ) (text : Option (List ℕ))
    (served : Option Line) (before after : SystemState) (answer : List ℕ)
    → AnswersLine on sizes number text served before after answer → Run
steps_of_turn on sizes number None served before after answer one = []
steps_of_turn on sizes number (Some text) None before after answer one = []
steps_of_turn on sizes number (Some text) (Some line) before after answer one =
    steps_in_form on.form on.table text line before after answer one.1

-- the steps of turns, one after the other
abbrev pub steps_of_turns : (on : SessionTerms) (sizes : Config) (number : ℕ) (turns : List Turn)
    (before after : SystemState) → AnswersTurns on sizes number turns before after → Run
steps_of_turns on sizes number [] before after answers = []
steps_of_turns on sizes number (turn ∷ turns) before after answers =
    steps_of_turn on sizes number turn.text turn.served before answers.0 turn.answer answers.1
    ++ steps_of_turns on sizes (number + 1) turns answers.0 after answers.2

-- After each line that was served in these turns, the promise holds of the run so far, and the ledger has its peaks and
-- event counts. The run before the first turn is `run`.
abbrev pub TurnsKeepPromise : (on : SessionTerms) (sizes : Config) (number : ℕ) (turns : List Turn)
    (before after : SystemState) → AnswersTurns on sizes number turns before after → (run : Run) → Type 0
TurnsKeepPromise on sizes number [] before after answers run = Unit {0}
TurnsKeepPromise on sizes number (turn ∷ turns) before after answers run =
    IfSome turn.served (λ line. KeepsPromise on.table
    (run ++ steps_of_turn on sizes number turn.text turn.served before answers.0 turn.answer answers.1) answers.0)
    × TurnsKeepPromise on sizes (number + 1) turns answers.0 after answers.2
    (run ++ steps_of_turn on sizes number turn.text turn.served before answers.0 turn.answer answers.1)

-- If a run shows the state before turns, and goes on legally with their steps, it then shows the state after them. If the
-- ledger before has the peaks and event counts of that run, the turns keep the promise.
abbrev pub LegalTurnsKeepIt : Type 0
LegalTurnsKeepIt = (on : SessionTerms) (sizes : Config) (number : ℕ) (turns : List Turn) (before after : SystemState)
    (answers : AnswersTurns on sizes number turns before after) (run : Run)
    → ShowsAll on.table run before.locked.machine (parts_of before.cpus)
    → IsLegalRun (zone_of_boot on.table) (run ++ steps_of_turns on sizes number turns before after answers)
    → GoesOnTo on.table run before.locked.machine (run ++ steps_of_turns on sizes number turns before after answers)
    after.locked.machine (parts_of after.cpus)
    × (AgreesWithRun on.table run before.locked.machine.ledger
    → TurnsKeepPromise on sizes number turns before after answers run)
