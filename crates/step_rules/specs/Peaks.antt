-- How a step moves usage, and the greatest usage since a group was made (memory.peak of cgroup-v2.rst).
use Rattle.std.specs.Prelude.{◌≡◌, ℕ, ◌+◌, ◌≤◌, ◌==◌, true, [], take, length, if◌then◌else◌}
use Rattle.group_tree.specs.{has_group, on_path, peak_after}
use Rattle.step_rules.specs.declared.step.Step.{Step}
use Rattle.step_rules.specs.declared.step.Action.{Action}
use Rattle.step_rules.specs.declared.step.Action.TheVariants.{Grant, Make}
use Rattle.step_rules.specs.declared.step.Answer.{Answer}
use Rattle.step_rules.specs.declared.step.Answer.TheVariants.{Granted, Number}
use Rattle.step_rules.specs.State.{Zone, State}
use Rattle.step_rules.specs.Usage.{usage_of}
use Rattle.step_rules.specs.Legal.{Allows}
use Rattle.step_rules.specs.After.{Run, after, state_of, IsLegalRun}
use Rattle.step_rules.specs.Laws.{pushed}

-- what a step does to usage: a grant adds its n pages at the group and at each ancestor, and any other step raises no
-- usage
abbrev pub UsageMoves : State → ℕ → Action → Answer → Type 0
UsageMoves s seat (Grant g n) Granted =
    (m : ℕ) → usage_of (after s seat (Grant g n) Granted) m ≡ on_path s.groups g (λ pages. pages + n) m (usage_of s m)
UsageMoves s seat action answer = (m : ℕ) → usage_of (after s seat action answer) m ≤ usage_of s m

-- after every legal run only a grant raises usage
abbrev pub OnlyGrantsRaiseUsage : Type 0
OnlyGrantsRaiseUsage = (zone : Zone) (run : Run) → IsLegalRun zone run → (seat : ℕ) (action : Action) (answer : Answer)
    → Allows (state_of zone run) seat action answer → UsageMoves (state_of zone run) seat action answer

-- the group has existed in every beginning from the k-th on
abbrev pub IsThereSince : Zone → Run → ℕ → ℕ → Type 0
IsThereSince zone run g k = (j : ℕ) → k ≤ j → j ≤ length run → has_group (state_of zone (take j run)).groups g ≡ true

-- memory.peak: the greatest usage of the group in the beginnings since it was made
pub record IsPeak (zone : Zone) (run : Run) (g peak : ℕ) : Type 0 where
  pub at : ℕ
  pub at_low : at ≤ length run
  pub at_there : IsThereSince zone run g at
  pub reached : usage_of (state_of zone (take at run)) g ≡ peak
  pub greatest : (k : ℕ) → k ≤ length run → IsThereSince zone run g k → usage_of (state_of zone (take k run)) g ≤ peak

-- The peak of group m after one more step, which leads to state t. If pages are granted to m or a descendant, it is the
-- greater of the old peak and the usage then. A new group begins with its usage, which is 0.
abbrev pub peak_follows : State → Action → Answer → ℕ → ℕ → ℕ
peak_follows t (Grant g n) Granted m peak = peak_after t.groups (usage_of t) g m peak
peak_follows t (Make path) (Number n) m peak = if m == n then 0 else peak
peak_follows t action answer m peak = peak

-- A group has one peak, and at boot the root's is 0. A step moves the peak of each group that exists after it as
-- `peak_follows` says. For a group that didn't exist before, any number may be taken as the old peak.
pub record PeaksAreKept : Type 0 where
  pub one : (zone : Zone) (run : Run) (g peak other : ℕ) → IsPeak zone run g peak → IsPeak zone run g other
      → peak ≡ other
  pub boot : (zone : Zone) → IsPeak zone [] 0 0
  pub step : (zone : Zone) (run : Run) (step : Step) (answer : Answer) → IsLegalRun zone run
      → Allows (state_of zone run) step.seat step.action answer
      → (m peak : ℕ) → has_group (state_of zone (pushed run step answer)).groups m ≡ true
      → (has_group (state_of zone run).groups m ≡ true → IsPeak zone run m peak)
      → IsPeak zone (pushed run step answer) m
      (peak_follows (state_of zone (pushed run step answer)) step.action answer m peak)
