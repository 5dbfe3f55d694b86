-- What a watch says of the steps that it took.
use Rattle.std.specs.Prelude.{◌≡◌, ℕ, ◌+◌, ◌++◌, ◌&&◌, Bool, true, false, Option, Some, None, is_some}
use Rattle.std.specs.Prelude.{List, Vec, [], ◌∷◌, flat_map, length, option_map, ⊤}
use Rattle.step_rules.specs.declared.step.Action.{Action}
use Rattle.step_rules.specs.declared.step.Answer.{Answer}
use Rattle.step_rules.specs.declared.step.Step.{Step}
use Rattle.step_rules.specs.{Zone, at_boot, Allows, Run, after, state_of, IsLegalRun}
use Rattle.step_rules.specs.State.{State}
use Rattle.mem_core.specs.{CoreState, state_shown, Leads, AlwaysKeepsPromise}
use Rattle.log_lines.specs.Line.{entry_text}

-- What a watch is: the state of its checker, or None if it checks no step; the log that it wrote, or None if it writes
-- none; and whether it takes steps: it was made to, and has not stopped.
pub record KnownWatch : Type 0 where
  pub core : Option CoreState
  pub log : Option (List ℕ)
  pub is_on : Bool

-- a watch that is off
abbrev pub watch_off : KnownWatch
watch_off = record { core = None; log = None; is_on = false }

-- the watch checks steps, and the rules allowed each step so far
abbrev pub has_legal_steps : KnownWatch → Bool
has_legal_steps watch = watch.is_on && is_some watch.core

-- the watch writes a log, and the log has each step so far
abbrev pub has_whole_log : KnownWatch → Bool
has_whole_log watch = watch.is_on && is_some watch.log

-- the state of the rules that a checker has reached; without a checker, that of a zone without frames and CPUs
abbrev pub state_reached : Option CoreState → State
state_reached None = at_boot (record { frames = 0; cpus = 0; groups = 0 })
state_reached (Some core) = state_shown core

-- the state of the rules that the watch saw its steps lead to
abbrev pub state_seen : KnownWatch → State
state_seen watch = state_reached watch.core

-- the text of a log, if there is one
abbrev pub known_log : {Z : Type 0} → Option (Vec ℕ Z) → Option (List ℕ)
known_log log = option_map (λ text. text.items) log

-- what is built is this action with this answer, and nothing else
abbrev pub Builds : (Action × Answer → Type 0) → Action → Answer → Type 0
Builds built action answer = (made : Action × Answer) → built made → made ≡ (action, answer)

-- how many steps a checker took
abbrev pub steps_taken : Option CoreState → ℕ
steps_taken None = 0
steps_taken (Some core) = core.steps

-- how many steps the watch checked and found legal
abbrev pub steps_seen : KnownWatch → ℕ
steps_seen watch = steps_taken watch.core

-- the rules allow each answer of the list, in its order, if the first step is made in state s; the steps lead to t
abbrev pub AreAllowedFrom : State → Run → State → Type 0
AreAllowedFrom s [] t = s ≡ t
AreAllowedFrom s (made ∷ rest) t =
    Allows s made.0.seat made.0.action made.1 × AreAllowedFrom (after s made.0.seat made.0.action made.1) rest t

-- what is written of a log; nothing, if there is none
abbrev pub text_written : Option (List ℕ) → List ℕ
text_written None = []
text_written (Some text) = text

-- the log that the watch wrote
abbrev pub log_text : KnownWatch → List ℕ
log_text watch = text_written watch.log

-- the steps with their answers, as the lines of a log
abbrev pub steps_text : Run → List ℕ
steps_text steps = flat_map (λ made. entry_text made.0 made.1 ++ 10 ∷ []) steps

-- if there is a checker, it accepts this answer to the step
abbrev pub Accepts : Option CoreState → Step → Answer → Option CoreState → Type 0
Accepts None step answer None = ⊤
Accepts (Some old) step answer (Some new) =
    Leads (state_shown old) step answer (state_shown new) × (new.steps ≡ old.steps + 1)
Accepts old step answer new = ⊥

-- if there is a log, the line of the step is added to it
abbrev pub Adds : Option (List ℕ) → Step → Answer → Option (List ℕ) → Type 0
Adds None step answer None = ⊤
Adds (Some old) step answer (Some new) = new ≡ old ++ (entry_text step answer ++ 10 ∷ [])
Adds old step answer new = ⊥

-- each step of the watch was legal before these, the rules allow these too, and the watch counted them
pub record Saw (before : KnownWatch) (steps : Run) (later : KnownWatch) : Type 0 where
  pub was_legal : has_legal_steps before ≡ true
  pub allowed : AreAllowedFrom (state_seen before) steps (state_seen later)
  pub count : steps_seen later ≡ steps_seen before + length steps

-- the log had each step before these, and these were added to it
pub record Wrote (before : KnownWatch) (steps : Run) (later : KnownWatch) : Type 0 where
  pub was_whole : has_whole_log before ≡ true
  pub added : log_text later ≡ log_text before ++ steps_text steps

-- Between these two states the watch took these steps: if it says that all steps were legal, it saw them; if it says
-- that its log is whole, it wrote them. Of a watch that is off this says nothing.
pub record Watches (before : KnownWatch) (steps : Run) (later : KnownWatch) : Type 0 where
  pub saw : has_legal_steps later ≡ true → Saw before steps later
  pub wrote : has_whole_log later ≡ true → Wrote before steps later

-- the watch that checks the steps of a zone that boots: it took no step
pub record IsNewWatch (zone : Zone) (watch : KnownWatch) : Type 0 where
  pub legal : has_legal_steps watch ≡ true
  pub state : state_seen watch ≡ at_boot zone
  pub steps : steps_seen watch ≡ 0

-- the run is legal, and leads to the state that the watch saw; the watch counted its steps, and the promise holds after
-- each beginning of the run that leaves the lock free
pub record SawRun (zone : Zone) (run : Run) (watch : KnownWatch) : Type 0 where
  pub legal : IsLegalRun zone run
  pub state : state_seen watch ≡ state_of zone run
  pub count : steps_seen watch ≡ length run
  pub promise : AlwaysKeepsPromise zone run

-- the watch that writes a log: nothing is written yet
pub record IsNewLog (watch : KnownWatch) : Type 0 where
  pub whole : has_whole_log watch ≡ true
  pub none : log_text watch ≡ []

-- a new watch that took these steps and says that all were legal, saw a legal run
abbrev pub WatchedRunsAreLegal : Type 0
WatchedRunsAreLegal = (zone : Zone) (new : KnownWatch) (run : Run) (later : KnownWatch)
    → IsNewWatch zone new → Watches new run later → has_legal_steps later ≡ true → SawRun zone run later

-- a watch that took some steps and then others took both lists, one after the other
abbrev pub WatchedRunsCompose : Type 0
WatchedRunsCompose = (before : KnownWatch) (first : Run) (between : KnownWatch) (second : Run) (later : KnownWatch)
    → Watches before first between → Watches between second later → Watches before (first ++ second) later

-- a watch that stays as it is took no step
abbrev pub NoStepIsWatched : Type 0
NoStepIsWatched = (watch : KnownWatch) → Watches watch [] watch
