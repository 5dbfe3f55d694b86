-- How a list of steps changes the ledger's peaks and event counts (memory.peak, memory.events and memory.events.local
-- of cgroup-v2.rst).
use Rattle.std.specs.Prelude.{◌≡◌, ℕ, Bool, true, List, [], ◌∷◌}
use Rattle.std.specs.List.{fold}
use Rattle.group_tree.specs.declared.event.EventKey.{EventKey}
use Rattle.group_tree.specs.declared.group.Group.{Group}
use Rattle.group_tree.specs.{count_of, has_group}
use Rattle.group_charge.specs.Charges.{Ledger, peak_of, events_of, events_local_of}
use Rattle.step_rules.specs.declared.step.Step.{Step}
use Rattle.step_rules.specs.declared.step.Action.{Action}
use Rattle.step_rules.specs.declared.step.Answer.{Answer}
use Rattle.step_rules.specs.State.{State}
use Rattle.step_rules.specs.{Run, after, peak_follows, count_after, is_noted_at, is_noted_in_subtree}
use Rattle.mem_machine.specs.Noted.{after_made}

-- how a step with its answer changes a number, by the state before it
abbrev pub Moves : Type 0
Moves = State → Step × Answer → ℕ → ℕ

-- the number after all steps of a list, the first of which is made in this state
abbrev pub moved_along : Moves → State → Run → ℕ → ℕ
moved_along moves state [] number = number
moved_along moves state (made ∷ rest) number =
    moved_along moves (after state made.0.seat made.0.action made.1) rest (moves state made number)

-- how a step changes the group's peak, by the state after the step
abbrev pub moves_peak : ℕ → Moves
moves_peak group state made peak =
    peak_follows (after state made.0.seat made.0.action made.1) made.0.action made.1 group peak

-- how a step changes a count of the group, tested with the groups before the step
abbrev pub moves_count : (List Group → Action → Answer → Bool) → ℕ → Moves
moves_count test group state made count = count_after test group state.groups made.0.action made.1 count

-- the peak of the group after these steps from this state on
abbrev pub peak_along : ℕ → State → Run → ℕ → ℕ
peak_along group state steps peak = moved_along (moves_peak group) state steps peak

-- a count of the group after these steps from this state on
abbrev pub count_along : (List Group → Action → Answer → Bool) → ℕ → State → Run → ℕ → ℕ
count_along test group state steps count = moved_along (moves_count test group) state steps count

-- the group exists after these steps from this state on
abbrev pub ExistsAfter : State → Run → ℕ → Type 0
ExistsAfter state steps group = has_group (fold after_made state steps).groups group ≡ true

-- For each group that exists after the steps, the peak and the counts follow the steps from their values before. A
-- group that the steps make starts at 0, whatever its number had before.
pub record FollowsSteps (state : State) (before : Ledger) (steps : Run) (after : Ledger) : Type 0 where
  pub peak : (group : ℕ) → ExistsAfter state steps group
      → peak_of after group ≡ peak_along group state steps (peak_of before group)
  pub events : (key : EventKey) (group : ℕ) → ExistsAfter state steps group
      → count_of (events_of after group) key
      ≡ count_along (is_noted_in_subtree key group) group state steps (count_of (events_of before group) key)
  pub events_local : (key : EventKey) (group : ℕ) → ExistsAfter state steps group
      → count_of (events_local_of after group) key
      ≡ count_along (is_noted_at key group) group state steps (count_of (events_local_of before group) key)
