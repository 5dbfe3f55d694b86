-- What the steps of a reclaim do.
use Rattle.std.specs.Prelude.{◌≡◌, ℕ, ◌+◌, ◌≤◌, ◌==◌, ◌&&◌, ◌⊎◌, Bool, true, false, List, [], ◌∷◌, ◌++◌}
use Rattle.std.specs.List.{list_any, count_by}
use Rattle.group_tree.specs.Room.{max_count}
use Rattle.step_rules.specs.declared.step.Action.{Action}
use Rattle.step_rules.specs.declared.step.Action.TheVariants.{Freeze, Return, Kill}
use Rattle.step_rules.specs.declared.step.Answer.{Answer}
use Rattle.step_rules.specs.declared.step.Answer.TheVariants.{Done, Missed}
use Rattle.step_rules.specs.{unit_of, Run, after, unit_size}
use Rattle.step_rules.specs.State.{State}
use Rattle.boot_words.specs.Pasts.{own_past}
use Rattle.boot_words.specs.Tables.{KnownTable}
use Rattle.mem_machine.specs.{KnownMachine, Makes, local_of, Transition, transition}
use Rattle.mem_reclaim.specs.Wanted.{Reclaiming, progress}

-- how many pages this step frees: those of the unit that it returns to the zone
abbrev pub pages_freed_by : State → Action → Answer → ℕ
pages_freed_by state (Return frame) Done = unit_size (unit_of (state.phases frame))
pages_freed_by state action answer = 0

-- how many pages these steps free, from this state on
abbrev pub pages_returned : State → Run → ℕ
pages_returned state [] = 0
pages_returned state (e ∷ rest) =
    pages_freed_by state e.0.action e.1 + pages_returned (after state e.0.seat e.0.action e.1) rest

-- the step is a freeze of the frame that missed
abbrev pub is_miss : ℕ → Action → Answer → Bool
is_miss frame (Freeze frozen pages) Missed = frozen == frame
is_miss frame action answer = false

-- how many of the steps are freezes of the frame by the zone's seat that missed
abbrev pub missed_in : ℕ → Run → ℕ
missed_in frame steps = count_by (λ entry. entry.0.seat == 0 && is_miss frame entry.0.action entry.1) steps

-- how often a freeze of the frame missed so far, by the machine's past
abbrev pub misses_of : KnownMachine → ℕ → ℕ
misses_of machine frame = missed_in frame (own_past machine.run.past).seen

-- the misses of each frame rose by the freezes of it that missed among the steps
abbrev pub CountsMisses : Transition KnownMachine → Type 0
CountsMisses call =
    (frame : ℕ) → misses_of call.after frame ≡ misses_of call.before frame + missed_in frame call.steps

-- the step is a freeze, of any frame, that missed
abbrev pub is_any_miss : Action → Answer → Bool
is_any_miss (Freeze frozen pages) Missed = true
is_any_miss action answer = false

-- how many of the steps are freezes that missed
abbrev pub all_missed_in : Run → ℕ
all_missed_in steps = count_by (λ entry. is_any_miss entry.0.action entry.1) steps

-- the step returns a unit to the zone
abbrev pub is_return : Action → Answer → Bool
is_return (Return frame) Done = true
is_return action answer = false

-- how many units these steps return to the zone
abbrev pub returned_in : Run → ℕ
returned_in steps = count_by (λ entry. is_return entry.0.action entry.1) steps

-- a count rose by this much, or is at its greatest
abbrev pub Rises : ℕ → ℕ → ℕ → Type 0
Rises before more after = (after ≡ before + more) ⊎ (max_count ≤ after)

-- the step kills a group
abbrev pub is_kill : Action → Bool
is_kill (Kill group) = true
is_kill action = false

-- the group that the step kills, if it kills one
abbrev pub killed_by : Action → List ℕ
killed_by (Kill group) = group ∷ []
killed_by action = []

-- the groups that these steps kill, in this order
abbrev pub kills_in : Run → List ℕ
kills_in [] = []
kills_in (e ∷ rest) = killed_by e.0.action ++ kills_in rest

-- some step is a kill
abbrev pub has_kill : Run → Bool
has_kill steps = list_any (λ entry. is_kill entry.0.action) steps

-- These steps lead from one machine to the other. They free this many pages, and none of them kills a group. The misses
-- of each frame rose by those among the steps. The machine's freezes rose by the number of units that the steps return,
-- and its misses by all misses among them.
pub record FreesPages (table : KnownTable) (before : KnownMachine) (freed : ℕ) (steps : Run)
    (after : KnownMachine) : Type 0 where
  pub runs : Makes table before steps after
  pub pages : pages_returned (local_of table before) steps ≡ freed
  pub no_kill : has_kill steps ≡ false
  pub misses : CountsMisses (transition table before steps after)
  pub returned : Rises before.counts.freezes (returned_in steps) after.counts.freezes
  pub missed : Rises before.counts.misses (all_missed_in steps) after.counts.misses

-- some list of steps leads from one machine to the other and frees this many pages, and `Does` holds of it
pub record FreesBySteps (table : KnownTable) (freed : ℕ) (before after : KnownMachine)
    (Does : Reclaiming) : Type 0 where
  pub steps : Run
  pub does : Does (progress freed before steps after)
  pub moves : FreesPages table before freed steps after
