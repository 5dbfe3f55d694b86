-- The history of lines: what their steps are, and what holds after each line.
use Rattle.std.specs.Prelude.{◌≡◌, ℕ, ◌-◌, true, false, List, [], ◌∷◌, ◌++◌, Result, Vec, IfErr, IfOk, OnErr, get_or, take, ⊤}
use Rattle.step_rules.specs.After.{Run, IsLegalRun}
use Rattle.step_rules.specs.Promise.{Promise}
use Rattle.boot_words.specs.{zone_of_boot, KnownTable}
use Rattle.step_watch.specs.Watched.{IsNewWatch, SawRun, has_legal_steps}
use Rattle.mem_machine.specs.{AgreesWithRun}
use Rattle.mem_history.specs.{GoesOnTo, ShowsAll, shown_of}
use Rattle.mem_system.specs.Cpus.{parts_of}
use Rattle.mem_system.specs.Visits.{transition}
use Rattle.script_lines.specs.declared.line.Line.{Line}
use Rattle.script_lines.specs.declared.line.Line.TheVariants.{Go}
use Rattle.script_replay.specs.declared.replays.Stopped.{Stopped}
use Rattle.script_replay.specs.declared.replays.Stopped.TheVariants.{NoMemory, NotLegal}
use Rattle.script_replay.specs.Lines.{SystemState, RunGoesOn, ServesAll, ServesLine, StopsAt, WritesLineOnTerms, number_in_script, steps_of_served}
use Rattle.script_replay.specs.Terms.{Terms}

-- ---- the history
-- the run of all steps of the lines so far, and what it led to
pub record LinesSoFar : Type 0 where
  pub run : Run
  pub now : SystemState

-- the lines so far with this run and this state after it
abbrev pub lines_so_far : Run → SystemState → LinesSoFar
lines_so_far run now = record { run = run; now = now }

-- the lines so far and one more, which was served by these steps
abbrev pub with_line : (so_far : LinesSoFar) (steps : Run) (after : SystemState) → LinesSoFar
with_line so_far steps after = record { run = so_far.run ++ steps; now = after }

-- the promise holds after the run, of what the machine and the CPUs show, and the ledger has the peaks and event counts
-- of the run
pub record KeepsPromise (table : KnownTable) (run : Run) (now : SystemState) : Type 0 where
  pub promise : Promise (zone_of_boot table) run (shown_of table now.locked.machine (parts_of now.cpus))
  pub tells : AgreesWithRun table run now.locked.machine.ledger

-- The first line is served by these steps, by which the run so far goes on, and the promise holds after them. The other
-- lines have such a history from there on.
pub record KeepsFirstAndRest (terms : Terms) (line : Line) (so_far : LinesSoFar) (text : List ℕ)
    (keeps_rest : LinesSoFar → List ℕ → Type 0) : Type 0 where
  pub first : List ℕ
  pub rest : List ℕ
  pub between : SystemState
  pub steps : Run
  pub writes_first : WritesLineOnTerms terms line (transition terms.table so_far.now steps between) first
  pub goes_on : RunGoesOn steps so_far.now between
  pub kept : KeepsPromise terms.table (so_far.run ++ steps) between
  pub keeps : keeps_rest (with_line so_far steps between) rest
  pub text_is : text ≡ first ++ rest

-- The history of lines that keep the promise: they are served one after the other, as `ServesAll` says, and after each
-- line the promise holds. `last` is the run of all their steps, and what it led to.
abbrev pub KeepsHistory : Terms → List Line → LinesSoFar → (last : LinesSoFar) (text : List ℕ) → Type 0
KeepsHistory terms [] so_far last text = (text ≡ []) × (last ≡ so_far)
KeepsHistory terms (line ∷ lines) so_far last text =
    KeepsFirstAndRest terms line so_far text (λ later rest. KeepsHistory terms lines later last rest)

-- If a run shows the state before lines that were served, and goes on legally with their steps, it then shows the state
-- after them. Its peaks and event counts stay those of the ledger.
abbrev pub LegalLinesAreShown : Type 0
LegalLinesAreShown = (terms : Terms) (lines : List Line) (before after : SystemState) (text : List ℕ)
    (served : ServesAll terms lines before after text) (run : Run)
    → ShowsAll terms.table run before.locked.machine (parts_of before.cpus)
    → IsLegalRun (zone_of_boot terms.table) (run ++ steps_of_served terms lines before after text served)
    → GoesOnTo terms.table run before.locked.machine (run ++ steps_of_served terms lines before after text served)
    after.locked.machine (parts_of after.cpus)

-- If besides the ledger before has the peaks and event counts of that run, the lines keep the promise.
abbrev pub LegalLinesKeepIt : Type 0
LegalLinesKeepIt = (terms : Terms) (lines : List Line) (before after : SystemState) (text : List ℕ)
    (served : ServesAll terms lines before after text) (run : Run)
    → ShowsAll terms.table run before.locked.machine (parts_of before.cpus)
    → IsLegalRun (zone_of_boot terms.table) (run ++ steps_of_served terms lines before after text served)
    → AgreesWithRun terms.table run before.locked.machine.ledger
    → KeepsHistory terms lines (lines_so_far run before)
    (lines_so_far (run ++ steps_of_served terms lines before after text served) after) text

-- The watch saw all steps of the lines: they are one legal run, which the watch counted, and after each line the
-- promise holds.
pub record HasLegalHistory (terms : Terms) (lines : List Line) (before after : SystemState) (text : List ℕ)
    : Type 0 where
  pub run : Run
  pub saw : SawRun (zone_of_boot terms.table) run after.locked.machine.run.watch
  pub history : KeepsHistory terms lines (lines_so_far [] before) (lines_so_far run after) text

-- The result of a replay. If it succeeds, all lines were served and these are their answers. If memory runs out for the
-- text of a line, the lines up to that one were served.
pub record ReplaysOrStops {Z E : Type 0} (terms : Terms) (lines : List Line) (before after : SystemState)
    (result : Result (Vec ℕ Z) E) : Type 0 where
  pub replayed : IfOk result (λ answers. ServesAll terms lines before after answers.items)
  pub stopped : OnErr result (StopsAt (ServesAll terms) lines before after)

-- the lines are served one after the other; they have a legal history from a boot whose watch is new, and whose ledger
-- has the peaks and event counts of no step
pub record ReplaysLegally (terms : Terms) (lines : List Line) (before after : SystemState)
    (text : List ℕ) : Type 0 where
  pub served : ServesAll terms lines before after text
  pub history : ShowsAll terms.table [] before.locked.machine (parts_of before.cpus)
      → AgreesWithRun terms.table [] before.locked.machine.ledger
      → IsNewWatch (zone_of_boot terms.table) before.locked.machine.run.watch
      → HasLegalHistory terms lines before after text

-- The last of so many lines is the first one with a step that the watch doesn't allow: it allowed all steps of the
-- lines before it, which led to `between`.
pub record IsFirstIllegalLine (terms : Terms) (lines : List Line) (number : ℕ) (before after : SystemState)
    : Type 0 where
  pub between : SystemState
  pub earlier : List ℕ
  pub last : List ℕ
  pub served : ServesAll terms (take (number - 1) lines) before between earlier
  pub allowed : has_legal_steps between.locked.machine.run.watch ≡ true
  pub serves : ServesLine terms (get_or lines (number - 1) Go) between after last
  pub not_allowed : has_legal_steps after.locked.machine.run.watch ≡ false

-- why a checked replay stopped after so many lines: memory ran out for the text of the last of them; or the last of
-- them is the first one with a step that the watch doesn't allow, and has this number
abbrev pub IsStopReason : Terms → (lines : List Line) (number : ℕ) (before after : SystemState) → Stopped → Type 0
IsStopReason terms lines number before after (NoMemory error) = ⊤
IsStopReason terms lines number before after (NotLegal line) =
    IsFirstIllegalLine terms lines number before after × (line ≡ number_in_script (get_or lines (number - 1) Go))

-- a checked replay stopped for this reason: the lines up to the one where it stopped were served
pub record StopsFor (terms : Terms) (lines : List Line) (before after : SystemState) (why : Stopped) : Type 0 where
  pub stops : StopsAt (ServesAll terms) lines before after
  pub reason : IsStopReason terms lines stops.number before after why

-- The result of a replay that is checked. If it succeeds, all lines were served, these are their answers, and the watch
-- allowed every step. Else it stopped for this reason.
pub record ReplaysCheckedOrStops {Z : Type 0} (terms : Terms) (lines : List Line) (before after : SystemState)
    (result : Result (Vec ℕ Z) Stopped) : Type 0 where
  pub replayed : IfOk result (λ answers. ReplaysLegally terms lines before after answers.items)
  pub stopped : IfErr result (StopsFor terms lines before after)
