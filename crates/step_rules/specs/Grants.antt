-- Grants and the limits (memory.max of cgroup-v2.rst), and the pages that are pending, counted over a run.
use Rattle.std.specs.Prelude.{◌≡◌, ℕ, ◌+◌, ◌^◌, ◌==◌, true, if◌then◌else◌}
use Rattle.group_tree.specs.{in_subtree, limit_of, fits_limit}
use Rattle.step_rules.specs.declared.step.Action.{Action}
use Rattle.step_rules.specs.declared.step.Action.TheVariants.{Fill, DrainStock, Grant, Ungrant, PlaceBlock}
use Rattle.step_rules.specs.declared.step.Answer.{Answer}
use Rattle.step_rules.specs.declared.step.Answer.TheVariants.{Done, Pages, Granted, Placed}
use Rattle.step_rules.specs.State.{Zone, State}
use Rattle.step_rules.specs.Usage.{usage_of}
use Rattle.step_rules.specs.Legal.{is_of_group, IsMade}
use Rattle.step_rules.specs.After.{Run, after, state_of, IsLegalRun}
use Rattle.step_rules.specs.Returns.{counted_with_state}

-- after a grant that follows a legal run the usage of the group and of each ancestor is at most its limit
abbrev pub NoGrantPassesALimit : Type 0
NoGrantPassesALimit = (zone : Zone) (run : Run) → IsLegalRun zone run → (seat g n : ℕ)
    → IsMade (state_of zone run) seat (Grant g n) Granted
    → (m : ℕ) → in_subtree (state_of zone run).groups m g ≡ true
    → fits_limit (limit_of (state_of zone run).groups m)
    (usage_of (after (state_of zone run) seat (Grant g n) Granted) m) ≡ true

-- the pages that a step makes pending for group g: granted to it, or drained from its stock
abbrev pub pending_in : ℕ → State → ℕ → Action → Answer → ℕ
pending_in g s seat (Grant h n) Granted = if h == g then n else 0
pending_in g s seat (DrainStock cpu) (Pages n) = if is_of_group (s.parts cpu).stock.group g then n else 0
pending_in g s seat action answer = 0

-- the pending pages of the group that a step ungrants, fills into a stock, or places
abbrev pub pending_out : ℕ → State → ℕ → Action → Answer → ℕ
pending_out g s seat (Ungrant h n) Done = if h == g then n else 0
pending_out g s seat (Fill cpu h n) Done = if h == g then n else 0
pending_out g s seat (PlaceBlock h k) (Placed b) = if h == g then 2 ^ k else 0
pending_out g s seat action answer = 0

-- after every legal run the pages pending for a group are those granted and drained, less those ungranted, filled and
-- placed
abbrev pub PendingIsCounted : Type 0
PendingIsCounted = (zone : Zone) (run : Run) → IsLegalRun zone run → (g : ℕ)
    → counted_with_state (pending_in g) zone run
    ≡ (state_of zone run).pending g + counted_with_state (pending_out g) zone run
