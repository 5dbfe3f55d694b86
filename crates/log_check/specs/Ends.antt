-- After how many steps of a run the lock is free, and what the run leaves at its end.
use Rattle.std.specs.Prelude.{◌≡◌, ℕ, ◌+◌, ◌==◌, ◌&&◌, Bool, Option, Some, None, length, take}
use Rattle.group_tree.specs.Bounds.{most_groups}
use Rattle.step_rules.specs.declared.phase.Hold.{Hold}
use Rattle.step_rules.specs.declared.phase.Hold.TheVariants.{Unheld, HeldBy, Visiting}
use Rattle.step_rules.specs.{is_head, Zone, is_unheld, live_references, one_if, sum_to, Run, state_of}
use Rattle.step_rules.specs.State.{State}
use Rattle.log_check.specs.declared.verdict.LogEnd.{LogEnd}

-- after how many steps of the run the lock is free
abbrev pub free_count : Zone → Run → ℕ
free_count zone run = sum_to (length run) (λ k. one_if (is_unheld (state_of zone (take (k + 1) run)).hold))

-- the frame heads a unit that has no reference
abbrev pub is_unreferenced : State → ℕ → Bool
is_unreferenced s f = is_head (s.phases f) && live_references s f == 0

-- the CPU that holds the lock
abbrev pub holder_in : Hold → Option ℕ
holder_in Unheld = None
holder_in (HeldBy cpu) = Some cpu
holder_in (Visiting cpu) = Some cpu

-- what is left in the state: the units without references, the pages pending for all groups, and the lock's holder
pub record IsEnd (s : State) (end : LogEnd) : Type 0 where
  pub units : end.units ≡ sum_to s.zone.frames (λ f. one_if (is_unreferenced s f))
  pub pending : end.pending ≡ sum_to most_groups s.pending
  pub holder : end.holder ≡ holder_in s.hold
