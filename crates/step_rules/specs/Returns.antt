-- How each use of a frame ends and is closed, and that nothing is pending while the lock is free.
use Rattle.std.specs.Prelude.{◌≡◌, ℕ, ◌+◌, ◌==◌, ◌++◌, Bool, true, false, Option, Some, None, [], ◌∷◌, fold, if◌then◌else◌}
use Rattle.step_rules.specs.declared.phase.Stage.{Stage}
use Rattle.step_rules.specs.declared.phase.Stage.TheVariants.{Collected, BackAt, BackPassing, AwaitsReturn}
use Rattle.step_rules.specs.declared.phase.Phase.{Phase}
use Rattle.step_rules.specs.declared.phase.Phase.TheVariants.{Head}
use Rattle.step_rules.specs.declared.step.FramePlace.TheVariants.{LentTo}
use Rattle.step_rules.specs.declared.step.Step.{Step}
use Rattle.step_rules.specs.declared.step.Action.{Action}
use Rattle.step_rules.specs.declared.step.Action.TheVariants.{Put, Freeze, Unfreeze, Credit, Return}
use Rattle.step_rules.specs.declared.step.Answer.{Answer}
use Rattle.step_rules.specs.declared.step.Answer.TheVariants.{Done, Last, Stocked}
use Rattle.step_rules.specs.State.{Zone, State, at_boot, one_if, is_unheld, times}
use Rattle.step_rules.specs.Usage.{frames_kept, pages_prepaid, usage_of}
use Rattle.step_rules.specs.Legal.{is_legal, IsMade, no_frame_passes}
use Rattle.step_rules.specs.After.{Run, after, state_of, IsLegalRun}
use Rattle.step_rules.specs.Folds.{was_killed}
use Rattle.step_rules.specs.Units.{units_after_run}
use Rattle.step_rules.specs.Places.{is_same_frame_place, place_in}

-- the stage of a unit whose last reference was dropped and that wasn't returned since
abbrev pub stage_awaits_return : Stage → Bool
stage_awaits_return (BackAt cpu) = true
stage_awaits_return (BackPassing cpu) = true
stage_awaits_return AwaitsReturn = true
stage_awaits_return _ = false

-- the frame awaits its return: its last reference was dropped, and it wasn't returned since
abbrev pub phase_awaits_return : Phase → Bool
phase_awaits_return (Head unit stage) = stage_awaits_return stage
phase_awaits_return _ = false

-- the stage of a fresh frame that was collected, if its group is killed
abbrev pub is_killed_return_stage : Bool → Stage → Bool
is_killed_return_stage is_killed Collected = is_killed
is_killed_return_stage _ _ = false

-- a return in this phase is of a killed group's fresh frame: it was collected as a fresh frame, and its group is
-- killed
abbrev pub is_killed_return_phase : (ℕ → Bool) → Phase → Bool
is_killed_return_phase killed (Head unit stage) = is_killed_return_stage (killed unit.group) stage
is_killed_return_phase _ _ = false

-- there is a group, and it is killed
abbrev pub is_killed_group : (ℕ → Bool) → Option ℕ → Bool
is_killed_group killed None = false
is_killed_group killed (Some g) = killed g

-- a return of the frame is of a killed group's fresh frame
abbrev pub is_killed_return : Run → ℕ → Bool
is_killed_return run f = is_killed_group (was_killed run) ((units_after_run run).fresh_for f)

-- Whether frame f awaits its return after one more step. It does from a last put or a freeze of all references on,
-- until references are put on it again or it is returned.
abbrev pub awaits_return_after : ℕ → Bool → Action → Answer → Bool
awaits_return_after f old (Put g) Last = if g == f then true else old
awaits_return_after f old (Freeze g n) Done = if g == f then true else old
awaits_return_after f old (Unfreeze g n) Done = if g == f then false else old
awaits_return_after f old (Return g) Done = if g == f then false else old
awaits_return_after f old action answer = old

-- the last reference of the frame was dropped, and the frame was neither returned nor unfrozen since
abbrev pub awaits_return : Run → ℕ → Bool
awaits_return run f = fold (λ old e. awaits_return_after f old e.0.action e.1) false run

-- 1 if a step after this run ends a use of frame f: a last put, a freeze of all references, a credit, or the return
-- of a killed group's fresh frame
abbrev pub uses_ended : ℕ → Run → ℕ → Action → Answer → ℕ
uses_ended f run seat (Put g) Last = if g == f then 1 else 0
uses_ended f run seat (Freeze g n) Done = if g == f then 1 else 0
uses_ended f run seat (Credit g) Stocked = if g == f then 1 else 0
uses_ended f run seat (Return g) Done = if g == f then one_if (is_killed_return run g) else 0
uses_ended f run seat action answer = 0

-- 1 if a step closes an end: the frame is returned or credited, or an unfreeze undoes the end
abbrev pub uses_closed : ℕ → Run → ℕ → Action → Answer → ℕ
uses_closed f run seat (Return g) Done = if g == f then 1 else 0
uses_closed f run seat (Credit g) Stocked = if g == f then 1 else 0
uses_closed f run seat (Unfreeze g n) Done = if g == f then one_if (awaits_return run g) else 0
uses_closed f run seat action answer = 0

-- the run so far and what was counted along it, after one more pair
abbrev pub with_counted : (Run → ℕ → Action → Answer → ℕ) → Run × ℕ → Step × Answer → Run × ℕ
with_counted count t e = (t.0 ++ e ∷ [], t.1 + count t.0 e.0.seat e.0.action e.1)

-- the sum of what each step of a run counts, each counted with the run before it
abbrev pub counted_with_run : (Run → ℕ → Action → Answer → ℕ) → Run → ℕ
counted_with_run count run = (fold (with_counted count) ([], 0) run).1

-- the state and what was counted with it, after one more pair
abbrev pub with_count : (State → ℕ → Action → Answer → ℕ) → State × ℕ → Step × Answer → State × ℕ
with_count count t e = (after t.0 e.0.seat e.0.action e.1, t.1 + count t.0 e.0.seat e.0.action e.1)

-- the sum of what each step of a run counts, each counted with the state before it
abbrev pub counted_with_state : (State → ℕ → Action → Answer → ℕ) → Zone → Run → ℕ
counted_with_state count zone run = (fold (with_count count) (at_boot zone, 0) run).1

-- Each use of the frame that ended is closed by a return or a credit, or undone by an unfreeze, except one that awaits
-- its return. No use ends while one awaits its return, so any other return is of a killed group's fresh frame. What
-- awaits its return, and such returns, are the same in the state as by the run.
pub record ReturnsOnce (zone : Zone) (run : Run) (f : ℕ) : Type 0 where
  pub once : counted_with_run (uses_ended f) run
      ≡ one_if (phase_awaits_return ((state_of zone run).phases f)) + counted_with_run (uses_closed f) run
  pub awaited : awaits_return run f ≡ phase_awaits_return ((state_of zone run).phases f)
  pub killed_return : (seat : ℕ) → is_legal (state_of zone run) seat (Return f) ≡ true
      → is_killed_return run f ≡ is_killed_return_phase (state_of zone run).killed ((state_of zone run).phases f)
  pub none_awaited_at_put : (seat : ℕ) → IsMade (state_of zone run) seat (Put f) Last
      → phase_awaits_return ((state_of zone run).phases f) ≡ false
  pub none_awaited_at_freeze : (seat n : ℕ) → IsMade (state_of zone run) seat (Freeze f n) Done
      → phase_awaits_return ((state_of zone run).phases f) ≡ false

-- after every legal run each use of a frame that ended is closed, except one that is open
abbrev pub EveryFrameReturnsOnce : Type 0
EveryFrameReturnsOnce = (zone : Zone) (run : Run) → IsLegalRun zone run → (f : ℕ) → ReturnsOnce zone run f

-- While the lock is free no page is pending, usage is the frames kept and the pages prepaid, and no frame is in
-- transit. A frame that is lent is once on the list of its CPU, and no frame is on any other list.
pub record IsAllPlaced (s : State) : Type 0 where
  pub pending : (g : ℕ) → s.pending g ≡ 0
  pub usage : (g : ℕ) → usage_of s g
      ≡ frames_kept s.groups s.phases s.zone.frames g + pages_prepaid s.groups s.parts s.zone.cpus g
  pub still : no_frame_passes s ≡ true
  pub listed : (f cpu : ℕ) → times f (s.parts cpu).list
      ≡ one_if (is_same_frame_place (place_in (s.phases f)) (LentTo cpu))

-- after every legal run that leaves the lock free nothing is pending or in transit
abbrev pub NothingPendsWhileTheLockIsFree : Type 0
NothingPendsWhileTheLockIsFree = (zone : Zone) (run : Run) → IsLegalRun zone run
    → is_unheld (state_of zone run).hold ≡ true → IsAllPlaced (state_of zone run)
