-- What a CPU knows of a run, whatever others did since its own last step.
use Rattle.std.specs.Prelude.{[], ◌≡◌, ◌≢◌, ◌⊎◌, ℕ, ◌≤◌, ◌++◌, true, false, None, is_some, length}
use Rattle.step_rules.specs.declared.step.Step.{Step}
use Rattle.step_rules.specs.declared.step.Action.{Action}
use Rattle.step_rules.specs.declared.step.Action.TheVariants.{PassBack}
use Rattle.step_rules.specs.declared.step.Answer.{Answer}
use Rattle.step_rules.specs.{Zone, Part, front_of, visits, times, is_legal, Allows, IsCounted, Run, after, state_of, IsLegalRun, ShowsLocal}
use Rattle.step_rules.specs.{IsLocalStep, pushed, holds_lock, seen_by}
use Rattle.step_rules.specs.State.{State}
use Rattle.boot_words.specs.Runs.{HasNoStepOf, BooksNothingOf, OthersFollow, IsFast}
use Rattle.boot_words.specs.Hidden.{hide, show_own}

-- the CPU's lists and references are the same in both states
pub record HasSameLists (cpu : ℕ) (s t : State) : Type 0 where
  pub list : (t.parts cpu).list ≡ (s.parts cpu).list
  pub fresh : (t.parts cpu).fresh ≡ (s.parts cpu).fresh
  pub back : (t.parts cpu).back ≡ (s.parts cpu).back
  pub references : t.references cpu ≡ s.references cpu

-- A CPU's list, fresh and back frames and references change by its own steps alone, legal or not.
abbrev pub ListsAreOwn : Type 0
ListsAreOwn = (zone : Zone) (seen run : Run) (cpu : ℕ) → cpu ≢ 0 → OthersFollow cpu seen run
    → HasSameLists cpu (state_of zone seen) (state_of zone run)

-- the two states look the same to this CPU, and the same if every CPU's own part is hidden
pub record LooksTheSame (cpu : ℕ) (s t : State) : Type 0 where
  pub to_cpu : seen_by cpu t ≡ seen_by cpu s
  pub hidden : hide t ≡ hide s

-- After any legal run, an allowed fast step of a CPU leaves what any other CPU sees, and what is left if all CPUs' own
-- parts are hidden, whether or not the lock is held.
abbrev pub FastIsHidden : Type 0
FastIsHidden = (zone : Zone) (run : Run) (cpu : ℕ) (step : Step) (answer : Answer) → IsLegalRun zone run
    → step.seat ≢ 0 → step.seat ≢ cpu → IsFast step.action
    → Allows (state_of zone run) step.seat step.action answer
    → LooksTheSame cpu (state_of zone run) (state_of zone (pushed run step answer))

-- After any legal run, what a CPU sees is the state with every CPU's own part hidden, with its own part and references
-- shown in it: of frames, stocks and references. So it is put together from what the zone has and what the CPU has.
abbrev pub HolderSeesBoth : Type 0
HolderSeesBoth = (zone : Zone) (run : Run) (cpu : ℕ) → IsLegalRun zone run
    → seen_by cpu (state_of zone run)
    ≡ show_own cpu ((state_of zone run).parts cpu) ((state_of zone run).references cpu) (hide (state_of zone run))

-- What the lock's holder saw at its last step it still sees, whatever other CPUs did since. So a local step of the zone
-- or of the holder, whose answer agrees with others' counts, goes on legally after all that.
abbrev pub HolderGoesOn : Type 0
HolderGoesOn = (zone : Zone) (seen rest : Run) (cpu : ℕ) (local : State) (step : Step) (answer : Answer)
    → ShowsLocal zone seen cpu local → HasNoStepOf 0 rest → HasNoStepOf cpu rest → IsLegalRun zone (seen ++ rest)
    → IsLocalStep local cpu step.seat step.action answer
    → IsCounted (state_of zone (seen ++ rest)) step.action answer
    → ShowsLocal zone (pushed (seen ++ rest) step answer) cpu (after local step.seat step.action answer)

-- A fast step is legal after a run exactly if it was legal at the CPU's own last step, whatever others did since.
abbrev pub FastLegalityLasts : Type 0
FastLegalityLasts = (zone : Zone) (seen run : Run) (cpu : ℕ) (action : Action) → cpu ≢ 0 → IsLegalRun zone run
    → OthersFollow cpu seen run → IsFast action
    → is_legal (state_of zone run) cpu action ≡ is_legal (state_of zone seen) cpu action

-- the frame is the front of the CPU's list, a fresh frame there or a back frame there, by its part
pub data MayPassBack (part : Part) (f : ℕ) : Type 0 where
  FromList : 1 ≤ length part.list → f ≡ front_of part.list → MayPassBack part f
  FromFresh : 1 ≤ times f part.fresh → MayPassBack part f
  FromBack : 1 ≤ times f part.back → MayPassBack part f

-- A CPU whose visit is open may pass back the front of its list, each fresh frame and each back frame.
abbrev pub FrontsPassBack : Type 0
FrontsPassBack = (zone : Zone) (run : Run) (cpu f : ℕ) (local : State) → ShowsLocal zone run cpu local
    → visits cpu local.hold ≡ true → MayPassBack (local.parts cpu) f → is_legal local cpu (PassBack f) ≡ true

-- the CPU has no fresh page, nothing to report or to absorb, and its stock was drained or never filled
pub record IsSettledAndDrained (part : Part) : Type 0 where
  pub fresh : part.fresh ≡ []
  pub unreported : part.unreported ≡ 0
  pub reported : part.reported ≡ 0
  pub drained : (part.stock.group ≡ None) ⊎ (part.stock.is_drained ≡ true)

-- After any legal run nothing is booked for a CPU that is settled and drained.
abbrev pub NoneBooked : Type 0
NoneBooked = (zone : Zone) (run : Run) (cpu : ℕ) → IsLegalRun zone run
    → IsSettledAndDrained ((state_of zone run).parts cpu) → ((state_of zone run).parts cpu).book ≡ 0

-- the part has the same stock, or its stock was drained since, and the same pages to report and to absorb
pub record HasSameOrDrained (was is : Part) : Type 0 where
  pub group : is.stock.group ≡ was.stock.group
  pub unreported : is.unreported ≡ was.unreported
  pub reported : is.reported ≡ was.reported
  pub stock : (is.stock ≡ was.stock) ⊎ ((is.stock.pages ≡ 0) × (is.stock.is_drained ≡ is_some was.stock.group))

-- In a legal run a CPU's stock and its unreported and reported pages are those at its own last step, whatever others did
-- since, except that the stock may have been drained, if it wasn't filled and nothing of the CPU was absorbed.
abbrev pub StocksAreOwn : Type 0
StocksAreOwn = (zone : Zone) (seen rest : Run) (cpu : ℕ) → IsLegalRun zone (seen ++ rest) → HasNoStepOf cpu rest
    → BooksNothingOf cpu rest
    → HasSameOrDrained ((state_of zone seen).parts cpu) ((state_of zone (seen ++ rest)).parts cpu)

-- In a legal run a CPU that doesn't hold the lock doesn't come to hold it by others' steps. So nothing is filled or
-- absorbed for it meanwhile: its stock and its unreported and reported pages are the same, except that the stock may have
-- been drained.
abbrev pub AwayStays : Type 0
AwayStays = (zone : Zone) (seen rest : Run) (cpu : ℕ) → IsLegalRun zone (seen ++ rest) → HasNoStepOf cpu rest
    → holds_lock cpu (state_of zone seen).hold ≡ false
    → (holds_lock cpu (state_of zone (seen ++ rest)).hold ≡ false)
    × HasSameOrDrained ((state_of zone seen).parts cpu) ((state_of zone (seen ++ rest)).parts cpu)
