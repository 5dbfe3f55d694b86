-- Usage (memory.current of cgroup-v2.rst).
use Rattle.std.specs.Prelude.{ℕ, ◌+◌, List, if◌then◌else◌}
use Rattle.group_tree.specs.declared.group.Group.{Group}
use Rattle.group_tree.specs.{most_groups, in_subtree, is_in_subtree}
use Rattle.step_rules.specs.declared.phase.Phase.{Phase}
use Rattle.step_rules.specs.Phases.{keeper_of}
use Rattle.step_rules.specs.State.{State, Part, one_if, sum_to}

-- how many of the first n frames the group's subtree keeps
abbrev pub frames_kept : List Group → (ℕ → Phase) → ℕ → ℕ → ℕ
frames_kept groups phases n g = sum_to n (λ f. one_if (is_in_subtree groups g (keeper_of (phases f))))

-- the pages of a CPU's stock, if the stock is of a group of the subtree
abbrev pub stock_in_subtree : List Group → ℕ → Part → ℕ
stock_in_subtree groups g part = if is_in_subtree groups g part.stock.group then part.stock.pages else 0

-- the pages in the stocks of the subtree's groups
abbrev pub pages_prepaid : List Group → (ℕ → Part) → ℕ → ℕ → ℕ
pages_prepaid groups parts cpus g = sum_to (cpus + 1) (λ cpu. stock_in_subtree groups g (parts cpu))

-- the pages that are pending for the subtree's groups
abbrev pub pages_pending : List Group → (ℕ → ℕ) → ℕ → ℕ
pages_pending groups pending g = sum_to most_groups (λ h. if in_subtree groups g h then pending h else 0)

-- The memory now used by the group and its descendants, in pages: the frames that they keep, the pages prepaid for them
-- and those pending.
abbrev pub usage_of : State → ℕ → ℕ
usage_of s g = frames_kept s.groups s.phases s.zone.frames g + pages_prepaid s.groups s.parts s.zone.cpus g
    + pages_pending s.groups s.pending g
