-- How many frames are of each class, so that a step needn't look at all frames.
use Rattle.std.specs.Prelude.{◌≡◌, ℕ, ◌+◌, ◌-◌, ◌<◌, ◌==◌, ◌||◌, nat_lt, Option, Some, None, List, length, slice_set, if◌then◌else◌}
use Rattle.std.specs.List.{slice_index_or}
use Rattle.zone_blocks.specs.Config.{most_cpus}
use Rattle.group_tree.specs.Bounds.{most_groups}
use Rattle.step_rules.specs.declared.phase.Stage.{Stage}
use Rattle.step_rules.specs.declared.phase.Stage.TheVariants.{FreshPassing, BackPassing}
use Rattle.step_rules.specs.declared.phase.Phase.{Phase}
use Rattle.step_rules.specs.declared.phase.Phase.TheVariants.{InZone, Lent, Head}
use Rattle.step_rules.specs.{keeper_of, is_out, is_returning, one_if, sum_to}

-- the CPU from which the unit's head is in transit
abbrev pub stage_transit_cpu : Stage → Option ℕ
stage_transit_cpu (FreshPassing cpu) = Some cpu
stage_transit_cpu (BackPassing cpu) = Some cpu
stage_transit_cpu _ = None

-- the CPU to or from which the frame is in transit
abbrev pub transit_cpu : Phase → Option ℕ
transit_cpu (Lent cpu way) = if is_out way || is_returning way then Some cpu else None
transit_cpu (Head unit stage) = stage_transit_cpu stage
transit_cpu _ = None

-- 0 for none, and one more than the number for each number up to `last`; the numbers above it share a class
abbrev pub class_of : ℕ → Option ℕ → ℕ
class_of last None = 0
class_of last (Some n) = if nat_lt last n then last + 2 else n + 1

-- the class of a frame by the group that keeps it
abbrev pub keeper_class : Phase → ℕ
keeper_class x = class_of (most_groups - 1) (keeper_of x)

-- the class of a frame by the CPU to or from which it is in transit
abbrev pub transit_class : Phase → ℕ
transit_class x = class_of most_cpus (transit_cpu x)

-- how many of the first n frames are of a class
abbrev pub class_size : ℕ → (ℕ → ℕ) → ℕ → ℕ
class_size n class k = sum_to n (λ f. one_if (class f == k))

-- the list has the size of each class of the first n frames
pub record IsTally (n : ℕ) (class : ℕ → ℕ) (sizes : List ℕ) : Type 0 where
  pub below : (f : ℕ) → f < n → class f < length sizes
  pub each : (k : ℕ) → slice_index_or sizes k 0 ≡ class_size n class k

-- the sizes after one frame left a class for a class
abbrev pub moved_sizes : List ℕ → ℕ → ℕ → List ℕ
moved_sizes sizes from to = slice_set (slice_set sizes from (slice_index_or sizes from 0 - 1)) to
    (slice_index_or (slice_set sizes from (slice_index_or sizes from 0 - 1)) to 0 + 1)

-- the class of each frame in a list of phases
abbrev pub class_in : (Phase → ℕ) → List Phase → ℕ → ℕ
class_in class phases f = class (slice_index_or phases f InZone)
