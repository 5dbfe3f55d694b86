-- The groups that a run made, and the pages charged to them (memory.current of cgroup-v2.rst), over the run's pairs
-- alone.
use Rattle.std.specs.Prelude.{ℕ, ◌-◌, ◌^◌, Bool, Option, Some, None, List, fold, if◌then◌else◌}
use Rattle.group_tree.specs.declared.group.Group.{Group}
use Rattle.group_tree.specs.Groups.{in_subtree, with_group, with_limit, with_oom_group, without_group}
use Rattle.step_rules.specs.declared.phase.ChargedUnit.{ChargedUnit}
use Rattle.step_rules.specs.declared.step.Action.{Action}
use Rattle.step_rules.specs.declared.step.Action.TheVariants.{Grant, Ungrant, Return, SetMax, SetFlag, Make, Remove}
use Rattle.step_rules.specs.declared.step.Answer.{Answer}
use Rattle.step_rules.specs.declared.step.Answer.TheVariants.{Done, Granted, Number}
use Rattle.step_rules.specs.After.{Run}
use Rattle.step_rules.specs.Units.{units_after_run}
use Rattle.step_rules.specs.Returns.{counted_with_run}
use Rattle.step_rules.specs.State.{Zone, boot_groups}

-- the groups after one more step
abbrev pub groups_after : List Group → Action → Answer → List Group
groups_after groups (Make path) (Number n) = with_group groups n path
groups_after groups (SetMax g limit) Done = with_limit groups g limit
groups_after groups (SetFlag g flag) Done = with_oom_group groups g flag
groups_after groups (Remove g) Done = without_group groups g
groups_after groups action answer = groups

-- the root, and the groups that the run made and didn't remove
abbrev pub groups_of : Zone → Run → List Group
groups_of zone run = fold (λ old e. groups_after old e.0.action e.1) (boot_groups zone) run

-- the pages that a step charges to the groups that pass the test: those granted to one of them
abbrev pub charged_in : (ℕ → Bool) → Run → ℕ → Action → Answer → ℕ
charged_in test run seat (Grant g n) Granted = if test g then n else 0
charged_in test run seat action answer = 0

-- the frames of a unit, if there is one and its group passes the test
abbrev pub unit_pages : (ℕ → Bool) → Option ChargedUnit → ℕ
unit_pages test None = 0
unit_pages test (Some unit) = if test unit.group then 2 ^ unit.order else 0

-- the pages that a step after this run uncharges from them: those ungranted, and the frames of a unit that is returned
abbrev pub charged_out : (ℕ → Bool) → Run → ℕ → Action → Answer → ℕ
charged_out test run seat (Ungrant g n) Done = if test g then n else 0
charged_out test run seat (Return f) Done = unit_pages test ((units_after_run run).unit f)
charged_out test run seat action answer = 0

-- The pages charged to the group and those below it. Grants and returns of the whole run count by group numbers, in the
-- tree as it is after the run. That is right although a number may be that of a removed group: a group is removed only
-- with usage 0, so what was granted to it and what was uncharged cancel.
abbrev pub charged_in_subtree : Zone → Run → ℕ → ℕ
charged_in_subtree zone run g =
    counted_with_run (charged_in (in_subtree (groups_of zone run) g)) run
    - counted_with_run (charged_out (in_subtree (groups_of zone run) g)) run
