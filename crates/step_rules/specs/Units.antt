-- What a run says of charged units, folded over its pairs alone: which frame heads which unit, and which frames are
-- fresh.
use Rattle.std.specs.Prelude.{◌≡◌, ℕ, ◌==◌, Bool, true, false, Option, Some, None, [], fold, if◌then◌else◌}
use Rattle.step_rules.specs.declared.phase.ChargedUnit.{ChargedUnit}
use Rattle.step_rules.specs.declared.phase.Stage.{Stage}
use Rattle.step_rules.specs.declared.phase.Stage.TheVariants.{FreshAt, FreshPassing, Collected}
use Rattle.step_rules.specs.declared.phase.Phase.{Phase}
use Rattle.step_rules.specs.declared.phase.Phase.TheVariants.{Head}
use Rattle.step_rules.specs.declared.step.Action.{Action}
use Rattle.step_rules.specs.declared.step.Action.TheVariants.{Unfreeze, Consume, Credit, PlaceBlock, Return}
use Rattle.step_rules.specs.declared.step.Answer.{Answer}
use Rattle.step_rules.specs.declared.step.Answer.TheVariants.{Done, Took, Stocked, Placed}
use Rattle.step_rules.specs.Phases.{unit_of}
use Rattle.step_rules.specs.State.{Zone, front_of}
use Rattle.step_rules.specs.After.{Run, state_of, IsLegalRun}
use Rattle.step_rules.specs.Folds.{InHand, hand_after, hand_of}

-- The frames that each CPU has; the unit that each frame heads; and for each fresh frame the group that paid for it. A
-- frame is fresh if it was consumed, and since then not credited, returned or given a reference.
pub record Units : Type 0 where
  pub hands : ℕ → InHand
  pub unit : ℕ → Option ChargedUnit
  pub fresh_for : ℕ → Option ℕ

-- The unit that frame f heads after one more step of a seat whose list begins with `front`. A consume makes that frame
-- a unit of one frame, a placed block is a unit of its order, and a credit or a return ends the unit.
abbrev pub unit_after : ℕ → ℕ → Option ChargedUnit → Action → Answer → Option ChargedUnit
unit_after f front old (Consume g) Took = if front == f then Some (record { group = g; order = 0 }) else old
unit_after f front old (PlaceBlock g k) (Placed b) = if b.at == f then Some (record { group = g; order = k }) else old
unit_after f front old (Credit h) Stocked = if h == f then None else old
unit_after f front old (Return h) Done = if h == f then None else old
unit_after f front old action answer = old

-- The group for which frame f is fresh after one more step of such a seat. A consume pays for the frame. It is fresh
-- until references are put on it, or it is credited or returned.
abbrev pub fresh_after : ℕ → ℕ → Option ℕ → Action → Answer → Option ℕ
fresh_after f front old (Consume g) Took = if front == f then Some g else old
fresh_after f front old (Unfreeze h n) Done = if h == f then None else old
fresh_after f front old (Credit h) Stocked = if h == f then None else old
fresh_after f front old (Return h) Done = if h == f then None else old
fresh_after f front old action answer = old

-- all three after one more step
abbrev pub units_after : Units → ℕ → Action → Answer → Units
units_after old seat action answer = record {
  hands = λ cpu. hand_after cpu (old.hands cpu) seat action answer;
  unit = λ f. unit_after f (front_of (old.hands seat).list) (old.unit f) action answer;
  fresh_for = λ f. fresh_after f (front_of (old.hands seat).list) (old.fresh_for f) action answer;
}

-- before the first step there are no units, and no CPU has a frame
abbrev pub no_units : Units
no_units = record {
  hands = λ cpu. record { list = []; fresh = []; back = [] };
  unit = λ f. None;
  fresh_for = λ f. None;
}

-- the units after a run
abbrev pub units_after_run : Run → Units
units_after_run run = fold (λ old e. units_after old e.0.seat e.0.action e.1) no_units run

-- the stage of a unit that a consume paid for and that had no reference
abbrev pub is_fresh_stage : Stage → Bool
is_fresh_stage (FreshAt cpu) = true
is_fresh_stage (FreshPassing cpu) = true
is_fresh_stage Collected = true
is_fresh_stage _ = false

-- the group for which a frame is fresh in this phase
abbrev pub fresh_group : Phase → Option ℕ
fresh_group (Head unit stage) = if is_fresh_stage stage then Some unit.group else None
fresh_group _ = None

-- the unit in the state is that of the run, and the frame is fresh in the state exactly if it is by the run, for the
-- same group
pub record UnitsFollowRun (zone : Zone) (run : Run) (f : ℕ) : Type 0 where
  pub unit : unit_of ((state_of zone run).phases f) ≡ (units_after_run run).unit f
  pub fresh : fresh_group ((state_of zone run).phases f) ≡ (units_after_run run).fresh_for f
  pub hands : (cpu : ℕ) → (units_after_run run).hands cpu ≡ hand_of run cpu

-- after every legal run the units and the fresh frames are those of the run
abbrev pub AllUnitsFollowRun : Type 0
AllUnitsFollowRun = (zone : Zone) (run : Run) → IsLegalRun zone run → (f : ℕ) → UnitsFollowRun zone run f
