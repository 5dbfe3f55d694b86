-- The state after a list of steps.
use Rattle.std.specs.Prelude.{◌≡◌, ℕ, ◌+◌, ◌-◌, ◌≤◌, ◌==◌, ◌&&◌, ◌++◌, not, nat_le, nat_lt, zero, suc, Bool, true, false, Option, None, min}
use Rattle.std.specs.Prelude.{List, [], ◌∷◌, map, filter, if◌then◌else◌}
use Rattle.std.specs.List.{range_with_len, slice_index_or}
use Rattle.group_tree.specs.declared.group.Group.{Group}
use Rattle.group_tree.specs.Bounds.{most_groups}
use Rattle.group_tree.specs.Groups.{the_root, room_of}
use Rattle.step_rules.specs.declared.phase.Hold.{Hold}
use Rattle.step_rules.specs.declared.phase.Hold.TheVariants.{Unheld, HeldBy, Visiting}
use Rattle.step_rules.specs.declared.phase.Phase.{Phase}
use Rattle.step_rules.specs.declared.phase.Phase.TheVariants.{InZone}
use Rattle.step_rules.specs.Phases.{Kind, ListFrame, FreshFrame, BackFrame, is_free}

-- the most references that a frame can have
abbrev pub most_references : ℕ
most_references = 255

-- how many fresh frames a CPU has at most
abbrev pub most_fresh : ℕ
most_fresh = 32

-- how many pins and back frames a CPU has at most, together
abbrev pub most_pins : ℕ
most_pins = 256

-- the sizes of a zone: how many frames it has, how many CPUs, and how many groups it has room for
pub record Zone : Type 0 where
  pub frames : ℕ
  pub cpus : ℕ
  pub groups : ℕ

-- a CPU's stock: the group of its last fill, the pages that it holds, and whether it was drained since
pub record PartStock : Type 0 where
  pub group : Option ℕ
  pub pages : ℕ
  pub is_drained : Bool

-- A CPU's part: its list, its fresh frames, its back frames, its stock, and its book. The book is the pages filled for
-- it and neither drained nor absorbed. Of these, `unreported` are the pages of fresh frames that were passed back, and
-- `reported` are to be absorbed.
pub record Part : Type 0 where
  pub list : List ℕ
  pub fresh : List ℕ
  pub back : List ℕ
  pub stock : PartStock
  pub book : ℕ
  pub unreported : ℕ
  pub reported : ℕ

-- The state: who holds the lock; the groups, and which are killed; the phase of each frame; the references of each seat
-- on each frame; each CPU's part; the pages pending for each group.
pub record State : Type 0 where
  pub zone : Zone
  pub hold : Hold
  pub groups : List Group
  pub killed : ℕ → Bool
  pub phases : ℕ → Phase
  pub references : ℕ → ℕ → ℕ
  pub parts : ℕ → Part
  pub pending : ℕ → ℕ

-- a stock that was never filled
abbrev pub no_stock : PartStock
no_stock = record { group = None; pages = 0; is_drained = false }

-- a CPU's part at boot
abbrev pub no_part : Part
no_part = record { list = []; fresh = []; back = []; stock = no_stock; book = 0; unreported = 0; reported = 0 }

-- the root at boot; with those that may exist below it there are as many groups as the zone has room for
abbrev pub boot_root : Zone → Group
boot_root zone = the_root (min zone.groups most_groups - 1)

-- the groups at boot: the root alone
abbrev pub boot_groups : Zone → List Group
boot_groups zone = boot_root zone ∷ []

-- the tree has room for as many groups as the zone, which has room for 1 to `most_groups`
abbrev pub HasRoom : Zone → List Group → Type 0
HasRoom zone groups = 1 ≤ zone.groups → zone.groups ≤ most_groups → room_of groups ≡ zone.groups

-- at boot the lock and each frame are free, the root is the only group, and nothing is referred to, lent or pending
abbrev pub at_boot : Zone → State
at_boot zone = record {
  zone = zone;
  hold = Unheld;
  groups = boot_groups zone;
  killed = λ g. false;
  phases = λ f. InZone;
  references = λ seat f. 0;
  parts = λ cpu. no_part;
  pending = λ g. 0;
}

-- the function with another value at one number
abbrev pub with_at : {X : Type 0} → (ℕ → X) → ℕ → X → ℕ → X
with_at h k x m = if m == k then x else h m

-- 1 if the test is true, else 0
abbrev pub one_if : Bool → ℕ
one_if true = 1
one_if false = 0

-- how often x is in the list
abbrev pub times : ℕ → List ℕ → ℕ
times x [] = 0
times x (y ∷ ys) = one_if (y == x) + times x ys

-- the sum of h 0, h 1 and so on, n numbers in all
unfoldable pub sum_to : ℕ → (ℕ → ℕ) → ℕ
sum_to zero h = 0
sum_to (suc n) h = sum_to n h + h n

-- the test holds of each number below n
unfoldable pub all_to : ℕ → (ℕ → Bool) → Bool
all_to zero test = true
all_to (suc n) test = all_to n test && test n

-- the frames of a list without this one
abbrev pub without : ℕ → List ℕ → List ℕ
without f frames = filter (λ x. not (x == f)) frames

-- the frames with this one at the end
abbrev pub with_last : List ℕ → ℕ → List ℕ
with_last frames f = frames ++ f ∷ []

-- the front of a list
abbrev pub front_of : List ℕ → ℕ
front_of frames = slice_index_or frames 0 0

-- the CPU's frames of one kind
abbrev pub frames_of : Part → Kind → List ℕ
frames_of part ListFrame = part.list
frames_of part FreshFrame = part.fresh
frames_of part BackFrame = part.back

-- the seat is a CPU's
abbrev pub is_cpu : Zone → ℕ → Bool
is_cpu zone cpu = nat_le 1 cpu && nat_le cpu zone.cpus

-- the frame is one of the zone
abbrev pub is_frame : Zone → ℕ → Bool
is_frame zone f = nat_lt f zone.frames

-- the lock is free
abbrev pub is_unheld : Hold → Bool
is_unheld Unheld = true
is_unheld _ = false

-- the CPU holds the lock, and its visit isn't open
abbrev pub is_held_by : ℕ → Hold → Bool
is_held_by cpu (HeldBy other) = other == cpu
is_held_by cpu _ = false

-- the CPU holds the lock, and its visit is open
abbrev pub visits : ℕ → Hold → Bool
visits cpu (Visiting other) = other == cpu
visits cpu _ = false

-- the seat is the zone's own, and a CPU holds the lock
abbrev pub may_zone_act : Hold → ℕ → Bool
may_zone_act hold seat = seat == 0 && not (is_unheld hold)

-- the references of all seats on the frame
abbrev pub live_references : State → ℕ → ℕ
live_references s f = sum_to (s.zone.cpus + 1) (λ seat. s.references seat f)

-- the references of the seat on all frames; a CPU's are its pins
abbrev pub pins_of : State → ℕ → ℕ
pins_of s seat = sum_to s.zone.frames (λ f. s.references seat f)

-- for each frame of the zone, whether it is in the free areas
abbrev pub free_in : Zone → (ℕ → Phase) → List Bool
free_in zone phases = map (λ f. is_free (phases f)) (range_with_len 0 zone.frames)
