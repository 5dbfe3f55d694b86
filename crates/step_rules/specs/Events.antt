-- Event counts over a run (memory.events and memory.events.local of cgroup-v2.rst).
use Rattle.std.specs.Prelude.{◌≡◌, ℕ, ◌+◌, ◌==◌, min, Bool, false, Option, Some, None, List, [], fold, if◌then◌else◌}
use Rattle.group_tree.specs.declared.event.EventKey.{EventKey}
use Rattle.group_tree.specs.declared.event.EventKey.TheVariants.{Low, High, Max, Oom, OomKill, OomGroupKill}
use Rattle.group_tree.specs.declared.group.Group.{Group}
use Rattle.group_tree.specs.{is_same_key, max_count, one_more, is_in_subtree}
use Rattle.step_rules.specs.declared.step.Step.{Step}
use Rattle.step_rules.specs.declared.step.NoteKey.{NoteKey}
use Rattle.step_rules.specs.declared.step.NoteKey.TheVariants as kind
use Rattle.step_rules.specs.declared.step.Action.{Action}
use Rattle.step_rules.specs.declared.step.Action.TheVariants as action
use Rattle.step_rules.specs.declared.step.Answer.{Answer}
use Rattle.step_rules.specs.declared.step.Answer.TheVariants.{Done, Number}
use Rattle.step_rules.specs.State.{Zone, State, at_boot, one_if}
use Rattle.step_rules.specs.Legal.{is_of_group}
use Rattle.step_rules.specs.After.{Run, after, state_of}
use Rattle.step_rules.specs.Laws.{pushed}

-- the key that counts a noted event
abbrev pub event_key : NoteKey → EventKey
event_key kind.Low = Low
event_key kind.High = High
event_key kind.Max = Max
event_key kind.Oom = Oom

-- the event that a step notes, and the group at which it notes it
abbrev pub event_of : Action → Answer → Option (EventKey × ℕ)
event_of (action.Note key g) Done = Some (event_key key, g)
event_of (action.Kill g) Done = Some (OomKill, g)
event_of (action.NoteGroupKill g) Done = Some (OomGroupKill, g)
event_of step answer = None

-- the group of a note, if there is one and it is of this kind
abbrev pub group_noted : EventKey → Option (EventKey × ℕ) → Option ℕ
group_noted key None = None
group_noted key (Some note) = if is_same_key key note.0 then Some note.1 else None

-- the group at which a step notes an event of this kind
abbrev pub noted_at : EventKey → Action → Answer → Option ℕ
noted_at key step answer = group_noted key (event_of step answer)

-- a step notes an event of this kind at a group of g's subtree
abbrev pub is_noted_in_subtree : EventKey → ℕ → List Group → Action → Answer → Bool
is_noted_in_subtree key g groups step answer = is_in_subtree groups g (noted_at key step answer)

-- a step notes an event of this kind at g itself
abbrev pub is_noted_at : EventKey → ℕ → List Group → Action → Answer → Bool
is_noted_at key g groups step answer = is_of_group (noted_at key step answer) g

-- the step makes group g
abbrev pub makes_group : ℕ → Action → Answer → Bool
makes_group g (action.Make path) (Number n) = g == n
makes_group g step answer = false

-- the state after one more pair, and how many steps have passed the test since g was made
abbrev pub with_passed : (List Group → Action → Answer → Bool) → ℕ → State × ℕ → Step × Answer → State × ℕ
with_passed test g t e = (
  after t.0 e.0.seat e.0.action e.1,
  if makes_group g e.0.action e.1 then 0 else t.1
      + one_if (test t.0.groups e.0.action e.1),
)

-- how many steps of the run passed the test since g was made, each tested with the groups at that step
abbrev pub passed_since_made : (List Group → Action → Answer → Bool) → ℕ → Zone → Run → ℕ
passed_since_made test g zone run = (fold (with_passed test g) (at_boot zone, 0) run).1

-- memory.events: how many events of this kind were noted at the group and its descendants since it was made; a count
-- stays at 2^64 - 1
abbrev pub events_in : EventKey → Zone → Run → ℕ → ℕ
events_in key zone run g = min (passed_since_made (is_noted_in_subtree key g) g zone run) max_count

-- memory.events.local: how many events of this kind were noted at the group itself since it was made
abbrev pub events_local_in : EventKey → Zone → Run → ℕ → ℕ
events_local_in key zone run g = min (passed_since_made (is_noted_at key g) g zone run) max_count

-- a count of g after one more step: 0 if the step makes g, one more if it notes an event
abbrev pub count_after : (List Group → Action → Answer → Bool) → ℕ → List Group → Action → Answer → ℕ → ℕ
count_after test g groups step answer count =
    if makes_group g step answer then 0 else (if test groups step answer then one_more count else count)

-- how one more step changes both counts of each kind, for each group
pub record EventsFollow (zone : Zone) (run : Run) (step : Step) (answer : Answer) (key : EventKey)
    (g : ℕ) : Type 0 where
  pub below : events_in key zone (pushed run step answer) g
      ≡ count_after (is_noted_in_subtree key g) g (state_of zone run).groups step.action answer
      (events_in key zone run g)
  pub local : events_local_in key zone (pushed run step answer) g
      ≡ count_after (is_noted_at key g) g (state_of zone run).groups step.action answer (events_local_in key zone run g)

-- at boot each count is 0, and each step changes the counts as `count_after` says
pub record EventsAreCounted : Type 0 where
  pub boot : (zone : Zone) (key : EventKey) (g : ℕ)
      → (events_in key zone [] g ≡ 0) × (events_local_in key zone [] g ≡ 0)
  pub step : (zone : Zone) (run : Run) (step : Step) (answer : Answer) (key : EventKey) (g : ℕ)
      → EventsFollow zone run step answer key g
