-- What a check says of a log.
use Rattle.std.specs.Prelude.{◌≡◌, ℕ, Some, take}
use Rattle.std.specs.List.{slice_get}
use Rattle.step_rules.specs.declared.step.Step.{Step}
use Rattle.step_rules.specs.declared.step.Answer.{Answer}
use Rattle.step_rules.specs.{Zone, Allows, Run, after, state_of, IsLegalRun}
use Rattle.step_rules.specs.State.{State}
use Rattle.mem_core.specs.declared.verdict.Verdict.{Verdict}
use Rattle.mem_core.specs.declared.verdict.Verdict.TheVariants.{Legal, IllegalAt}

-- the rules allow this answer to the step in state s, and the step then leads to state t
pub record Leads (s : State) (step : Step) (answer : Answer) (t : State) : Type 0 where
  pub allowed : Allows s step.seat step.action answer
  pub state : t ≡ after s step.seat step.action answer

-- the step at this index is the first whose answer the rules don't allow; they allow `expected` there
pub record IsFirstIllegal (zone : Zone) (run : Run) (index : ℕ) (expected : Answer) : Type 0 where
  pub before : IsLegalRun zone (take index run)
  pub step : Step
  pub answer : Answer
  pub there : slice_get run index ≡ Some (step, answer)
  pub denied : ¬ Allows (state_of zone (take index run)) step.seat step.action answer
  pub allowed : Allows (state_of zone (take index run)) step.seat step.action expected

-- the verdict is right: the run is legal, or this is the first step whose answer isn't allowed
abbrev pub IsVerdict : Zone → Run → Verdict → Type 0
IsVerdict zone run Legal = IsLegalRun zone run
IsVerdict zone run (IllegalAt index expected) = IsFirstIllegal zone run index expected
