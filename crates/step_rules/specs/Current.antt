-- Usage (memory.current of cgroup-v2.rst), counted over a run: frames by their places, stocks and pending pages by what
-- was put in and removed.
use Rattle.std.specs.Prelude.{◌≡◌, ℕ, ◌+◌, ◌&&◌, if◌then◌else◌}
use Rattle.group_tree.specs.{most_groups, in_subtree, is_in_subtree}
use Rattle.step_rules.specs.declared.step.FramePlace.TheVariants.{Charged}
use Rattle.step_rules.specs.State.{Zone, one_if, sum_to}
use Rattle.step_rules.specs.Usage.{frames_kept, pages_prepaid, pages_pending, usage_of}
use Rattle.step_rules.specs.After.{Run, state_of, IsLegalRun}
use Rattle.step_rules.specs.Places.{places_of}
use Rattle.step_rules.specs.Returns.{counted_with_state}
use Rattle.step_rules.specs.Counts.{stock_gained, stock_lost, counted}
use Rattle.step_rules.specs.Grants.{pending_in, pending_out}
use Rattle.step_rules.specs.Folds.{last_fill}

-- how many pairs there are of a frame of the zone and a place at a group of g's subtree
abbrev pub frames_placed : Zone → Run → ℕ → ℕ
frames_placed zone run g = sum_to zone.frames
    (λ f. sum_to most_groups (λ h. one_if
    (in_subtree (state_of zone run).groups g h && places_of zone run f (Charged h))))

-- a number for each CPU, summed over those whose last fill was for a group of g's subtree
abbrev pub over_stocks : Zone → Run → ℕ → (ℕ → ℕ) → ℕ
over_stocks zone run g of = sum_to (zone.cpus + 1)
    (λ cpu. if is_in_subtree (state_of zone run).groups g (last_fill run cpu).group then of cpu else 0)

-- a number for each group, summed over g's subtree
abbrev pub over_groups : Zone → Run → ℕ → (ℕ → ℕ) → ℕ
over_groups zone run g of = sum_to most_groups (λ h. if in_subtree (state_of zone run).groups g h then of h else 0)

-- The usage of a group is the sum of three parts. Kept: the frames placed in its subtree. Prepaid: the pages filled and
-- credited into the subtree's stocks, less those consumed and drained. Pending: the pages granted and drained there,
-- less those ungranted, filled and placed.
pub record CurrentFollowsRun (zone : Zone) (run : Run) (g : ℕ) : Type 0 where
  pub kept : frames_kept (state_of zone run).groups (state_of zone run).phases zone.frames g ≡ frames_placed zone run g
  pub prepaid : over_stocks zone run g (λ cpu. counted (stock_gained cpu) run)
      ≡ pages_prepaid (state_of zone run).groups (state_of zone run).parts zone.cpus g
      + over_stocks zone run g (λ cpu. counted (stock_lost cpu) run)
  pub pending : over_groups zone run g (λ h. counted_with_state (pending_in h) zone run)
      ≡ pages_pending (state_of zone run).groups (state_of zone run).pending g
      + over_groups zone run g (λ h. counted_with_state (pending_out h) zone run)
  pub usage : usage_of (state_of zone run) g
      ≡ frames_kept (state_of zone run).groups (state_of zone run).phases zone.frames g
      + pages_prepaid (state_of zone run).groups (state_of zone run).parts zone.cpus g
      + pages_pending (state_of zone run).groups (state_of zone run).pending g

-- after every legal run the usage of each group is the sum of its three parts
abbrev pub AllCurrentFollowsRun : Type 0
AllCurrentFollowsRun = (zone : Zone) (run : Run) → IsLegalRun zone run → (g : ℕ) → CurrentFollowsRun zone run g
