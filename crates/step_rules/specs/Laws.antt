-- Laws of what a CPU sees while it holds the lock.
use Rattle.std.specs.Prelude.{◌≡◌, ◌≢◌, ℕ, ◌++◌, ◌⊎◌, Bool, true, false, [], ◌∷◌}
use Rattle.step_rules.specs.declared.step.Step.{Step}
use Rattle.step_rules.specs.declared.step.Action.{Action}
use Rattle.step_rules.specs.declared.step.Action.TheVariants.{Lock, Unlock}
use Rattle.step_rules.specs.declared.step.Answer.{Answer}
use Rattle.step_rules.specs.declared.step.Answer.TheVariants.{Illegal}
use Rattle.step_rules.specs.State.{Zone, State}
use Rattle.step_rules.specs.Legal.{is_legal, IsAnswer, IsCounted, Allows}
use Rattle.step_rules.specs.After.{Run, after, state_of, IsLegalRun}
use Rattle.step_rules.specs.Views.{holds_lock, seen_by}

-- the run shows the CPU this local state: the run is legal, the CPU holds the lock after it, and this is what it sees
-- then
pub record ShowsLocal (zone : Zone) (run : Run) (cpu : ℕ) (local : State) : Type 0 where
  pub legal : IsLegalRun zone run
  pub holds : holds_lock cpu (state_of zone run).hold ≡ true
  pub sees : local ≡ seen_by cpu (state_of zone run)

-- the step takes or releases the lock
abbrev pub is_of_lock : Action → Bool
is_of_lock Lock = true
is_of_lock Unlock = true
is_of_lock _ = false

-- a step that the CPU or the zone's seat may make on the local state, with an answer that it may get there
pub record IsLocalStep (local : State) (cpu seat : ℕ) (action : Action) (answer : Answer) : Type 0 where
  pub own : (seat ≡ 0) ⊎ (seat ≡ cpu)
  pub inside : is_of_lock action ≡ false
  pub legal : is_legal local seat action ≡ true
  pub answered : IsAnswer local seat action answer

-- the run with one more pair
abbrev pub pushed : Run → Step → Answer → Run
pushed run step answer = run ++ (step, answer) ∷ []

-- After a run that shows a CPU a local state, take a local step whose answer also agrees with others' references and
-- stocks. The step is legal, and the run then shows the CPU the next local state.
abbrev pub OwnStepIsLegal : Type 0
OwnStepIsLegal = (zone : Zone) (run : Run) (cpu : ℕ) (local : State) (step : Step) (answer : Answer)
    → ShowsLocal zone run cpu local → IsLocalStep local cpu step.seat step.action answer
    → IsCounted (state_of zone run) step.action answer
    → ShowsLocal zone (pushed run step answer) cpu (after local step.seat step.action answer)

-- the step is another CPU's, or any seat's and answered Illegal
abbrev pub IsOtherOrIllegal : ℕ → ℕ → Answer → Type 0
IsOtherOrIllegal cpu seat answer = ((seat ≢ 0) × (seat ≢ cpu)) ⊎ (answer ≡ Illegal)

-- an allowed step of another CPU, and any step that is answered Illegal, leaves the local state as it is
abbrev pub OtherStepIsHidden : Type 0
OtherStepIsHidden = (zone : Zone) (run : Run) (cpu : ℕ) (local : State) (step : Step) (answer : Answer)
    → ShowsLocal zone run cpu local → IsOtherOrIllegal cpu step.seat answer
    → Allows (state_of zone run) step.seat step.action answer
    → ShowsLocal zone (pushed run step answer) cpu local
