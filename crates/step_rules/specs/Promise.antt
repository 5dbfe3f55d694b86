-- The promise: what every legal run of steps keeps, said of what is shown when the lock is free. The free areas are the
-- maximal free blocks (Knuth, The Art of Computer Programming, 2.5; Gorman, Understanding the Linux Virtual Memory
-- Manager, chapter 6). Each frame is in one place. Each memory.current is right, and no grant passed memory.max
-- (cgroup-v2.rst). No frame was returned twice for one use. References were given and dropped as the answers say.
use Rattle.std.specs.Prelude.{◌≡◌, ◌⊎◌, ◌↔◌, ℕ, ◌+◌, ◌<◌, ◌≤◌, Bool, true, false, Option, Some, is_some, List, length}
use Rattle.std.specs.Prelude.{take, slice_get, IfSome, if◌then◌else◌}
use Rattle.std.specs.List.{Contains}
use Rattle.zone_blocks.specs.declared.block.Block.{Block}
use Rattle.zone_blocks.specs.{Covers, AreMaximalBlocks, IsInOneBlock}
use Rattle.group_tree.specs.declared.group.Group.{Group}
use Rattle.group_tree.specs.{has_group, in_subtree, fits_limit, is_in_subtree}
use Rattle.step_rules.specs.declared.step.FramePlace.{FramePlace}
use Rattle.step_rules.specs.declared.step.FramePlace.TheVariants.{Free, LentTo, Charged}
use Rattle.step_rules.specs.declared.step.Action.{Action}
use Rattle.step_rules.specs.declared.step.Action.TheVariants.{Get, Put, Freeze, Unfreeze, Consume, Credit, Grant, PlaceBlock, Return}
use Rattle.step_rules.specs.declared.step.Answer.{Answer}
use Rattle.step_rules.specs.declared.step.Answer.TheVariants.{Done, Held, Last, Took, Stocked, Granted, Placed}
use Rattle.step_rules.specs.Phases.{keeper_of}
use Rattle.step_rules.specs.State.{Zone, PartStock, State, one_if, sum_to, front_of, is_cpu, is_unheld, free_in, times}
use Rattle.step_rules.specs.Usage.{usage_of}
use Rattle.step_rules.specs.After.{Run, state_of, IsLegalRun}
use Rattle.step_rules.specs.Folds.{limit_given, was_killed}
use Rattle.step_rules.specs.Units.{units_after_run}
use Rattle.step_rules.specs.Counts.{references_gained, references_lost, counted}
use Rattle.step_rules.specs.Returns.{awaits_return, is_killed_return}
use Rattle.step_rules.specs.Charges.{groups_of, charged_in_subtree}
use Rattle.step_rules.specs.References.{CountsReferences}

-- ---- what is shown
-- What is shown: the free areas; each CPU's list and stock; for each frame the group that keeps it, if any; the groups;
-- for each group a number of pages, its memory.current.
pub record Shown : Type 0 where
  pub areas : List Block
  pub lists : ℕ → List ℕ
  pub keeper : ℕ → Option ℕ
  pub groups : List Group
  pub stocks : ℕ → PartStock
  pub current : ℕ → ℕ

-- What is shown is this state: the areas are the maximal blocks of its free frames, each memory.current is the group's
-- usage, and all else is the same.
pub record IsShown (s : State) (shown : Shown) : Type 0 where
  pub areas : AreMaximalBlocks (free_in s.zone s.phases) shown.areas
  pub lists : (cpu : ℕ) → shown.lists cpu ≡ (s.parts cpu).list
  pub keeper : (f : ℕ) → shown.keeper f ≡ keeper_of (s.phases f)
  pub groups : shown.groups ≡ s.groups
  pub stocks : (cpu : ℕ) → shown.stocks cpu ≡ (s.parts cpu).stock
  pub current : (g : ℕ) → has_group s.groups g ≡ true → shown.current g ≡ usage_of s g

-- ---- each frame is in one place
-- the frame is shown at the place: in a block of the free areas, on the CPU's list, or kept by the group
abbrev pub Has : Shown → ℕ → FramePlace → Type 0
Has shown f Free = (b : Block) × Contains shown.areas b × Covers b f
Has shown f (LentTo cpu) = 1 ≤ times f (shown.lists cpu)
Has shown f (Charged g) = shown.keeper f ≡ Some g

-- the frame is shown at the place once: in one block alone, once on the list of a CPU, or kept by a group that exists
abbrev pub HasOnce : Zone → Shown → ℕ → FramePlace → Type 0
HasOnce zone shown f Free = IsInOneBlock shown.areas f
HasOnce zone shown f (LentTo cpu) = (is_cpu zone cpu ≡ true) × (times f (shown.lists cpu) ≡ 1)
HasOnce zone shown f (Charged g) = (has_group shown.groups g ≡ true) × (shown.keeper f ≡ Some g)

-- by the run a unit of this group has the frame: that of a head h, of 2^k frames
abbrev pub IsInUnit : Run → ℕ → ℕ → Type 0
IsInUnit run g f =
    (h : ℕ) × (k : ℕ) × ((units_after_run run).unit h ≡ Some (record { group = g; order = k }))
    × Covers (record { at = h; order = k }) f

-- The frame is shown once at one place, and at no other. A group keeps it exactly if a unit of that group has it.
pub record IsInOnePlace (zone : Zone) (run : Run) (shown : Shown) (f : ℕ) : Type 0 where
  pub place : FramePlace
  pub once : HasOnce zone shown f place
  pub only : (p : FramePlace) → Has shown f p → p ≡ place
  pub kept : (g : ℕ) → (shown.keeper f ≡ Some g) ↔ IsInUnit run g f

-- ---- each usage is right
-- the stock is that of a CPU, for a group that exists
abbrev pub IsPrepaid : Zone → Shown → ℕ → Type 0
IsPrepaid zone shown cpu = (is_cpu zone cpu ≡ true)
    × ((g : ℕ) × ((shown.stocks cpu).group ≡ Some g) × (has_group shown.groups g ≡ true))

-- how many of the first n frames the group and its descendants keep
abbrev pub kept_in_subtree : Shown → ℕ → ℕ → ℕ
kept_in_subtree shown frames g = sum_to frames (λ f. one_if (is_in_subtree shown.groups g (shown.keeper f)))

-- the pages prepaid for them in the stocks of the CPUs, which have the numbers from 1 on
abbrev pub prepaid_in_subtree : Shown → ℕ → ℕ → ℕ
prepaid_in_subtree shown cpus g =
    sum_to cpus (λ cpu. if is_in_subtree shown.groups g (shown.stocks (cpu + 1)).group
    then (shown.stocks (cpu + 1)).pages else 0)

-- ---- no grant passed a limit
-- A grant is for a group that isn't killed. With it, the pages charged to the group and to each ancestor are at most
-- the limit last given there, if any.
abbrev pub KeepsLimits : Zone → Run → Action → Answer → Type 0
KeepsLimits zone run (Grant g n) Granted = (was_killed run g ≡ false)
    × ((m : ℕ) → in_subtree (groups_of zone run) m g ≡ true
    → fits_limit (limit_given run m) (charged_in_subtree zone run m + n) ≡ true)
KeepsLimits zone run action answer = Unit {0}

-- ---- no frame is returned twice for one use
-- no seat has a reference on the frame: each gave up as many as it was given
abbrev pub HasNoReference : Run → ℕ → Type 0
HasNoReference run f = (seat : ℕ) → counted (references_gained seat f) run ≡ counted (references_lost seat f) run

-- the frame is in no use: no unit has it, no seat refers to it, and no return of it is due after a last reference
abbrev pub IsUnused : Run → ℕ → Type 0
IsUnused run f = ((g : ℕ) → ¬ IsInUnit run g f) × HasNoReference run f × (awaits_return run f ≡ false)

-- A reference is given, or dropped as the last, only while no return of the frame is due. First references are put only
-- on the head of a unit that has none. A frame is returned only without references and as the head of its unit: after
-- its last reference, or as a fresh frame of a killed group. A credit is of a frame that is fresh at the CPU, without
-- references. A frame is paid for, from the front of the list, or placed only while it is in no use. A placed block has
-- the order asked for.
abbrev pub ReturnsNoFrameTwice : Run → ℕ → Action → Answer → Type 0
ReturnsNoFrameTwice run seat (Get f) Held = awaits_return run f ≡ false
ReturnsNoFrameTwice run seat (Put f) Last = awaits_return run f ≡ false
ReturnsNoFrameTwice run seat (Freeze f n) Done = awaits_return run f ≡ false
ReturnsNoFrameTwice run seat (Unfreeze f n) Done = (is_some ((units_after_run run).unit f) ≡ true)
    × HasNoReference run f
ReturnsNoFrameTwice run seat (Return f) Done = ((awaits_return run f ≡ true) ⊎ (is_killed_return run f ≡ true))
    × (is_some ((units_after_run run).unit f) ≡ true) × HasNoReference run f
ReturnsNoFrameTwice run seat (Credit f) Stocked = (times f ((units_after_run run).hands seat).fresh ≡ 1)
    × HasNoReference run f
ReturnsNoFrameTwice run seat (Consume g) Took =
    (1 ≤ length ((units_after_run run).hands seat).list)
    × IsUnused run (front_of ((units_after_run run).hands seat).list)
ReturnsNoFrameTwice run seat (PlaceBlock g k) (Placed b) = (b.order ≡ k) × ((f : ℕ) → Covers b f → IsUnused run f)
ReturnsNoFrameTwice run seat action answer = Unit {0}

-- ---- the promise
-- What is shown after the run keeps the promise. The groups are those of the run. The free areas are the maximal blocks
-- of some set of frames; by the next field these are on no list and kept by no group. Each frame of the zone is in one
-- place, and no other frame is in any. Each page in a stock is prepaid. Each memory.current is the frames that the
-- group and its descendants keep and the pages prepaid for them; it is also what is charged to them. Each step of the
-- run, when it was made, kept the limits, returned no frame twice for one use, and counted references as its answer
-- says.
pub record Promise (zone : Zone) (run : Run) (shown : Shown) : Type 0 where
  pub groups : shown.groups ≡ groups_of zone run
  pub areas : (free : List Bool) × (length free ≡ zone.frames) × AreMaximalBlocks free shown.areas
  pub frames : (f : ℕ) → f < zone.frames → IsInOnePlace zone run shown f
  pub beyond : (f : ℕ) → zone.frames ≤ f → (p : FramePlace) → ¬ Has shown f p
  pub stocks : (cpu : ℕ) → 1 ≤ (shown.stocks cpu).pages → IsPrepaid zone shown cpu
  pub current : (g : ℕ) → has_group shown.groups g ≡ true
      → (shown.current g ≡ kept_in_subtree shown zone.frames g + prepaid_in_subtree shown zone.cpus g)
      × (shown.current g ≡ charged_in_subtree zone run g)
  pub limits : (k : ℕ) → IfSome (slice_get run k) (λ e. KeepsLimits zone (take k run) e.0.action e.1)
  pub returns : (k : ℕ) → IfSome (slice_get run k) (λ e. ReturnsNoFrameTwice (take k run) e.0.seat e.0.action e.1)
  pub references : (k : ℕ) → IfSome (slice_get run k)
      (λ e. CountsReferences zone (take k run) (take (k + 1) run) e.0.seat e.0.action e.1)

-- every legal run that leaves the lock free keeps the promise, for whatever shows its state
abbrev pub ThePromiseIsKept : Type 0
ThePromiseIsKept = (zone : Zone) (run : Run) (shown : Shown) → IsLegalRun zone run
    → is_unheld (state_of zone run).hold ≡ true
    → IsShown (state_of zone run) shown → Promise zone run shown

-- Each step of a legal run keeps the limits, returns no frame twice for one use, and counts references as its answer
-- says. This holds of each beginning of the run, even if it leaves the lock held, since the beginning is legal too.
abbrev pub EachStepIsPromised : Type 0
EachStepIsPromised = (zone : Zone) (run : Run) → IsLegalRun zone run → (k : ℕ) → IfSome (slice_get run k)
    (λ e. KeepsLimits zone (take k run) e.0.action e.1 × ReturnsNoFrameTwice (take k run) e.0.seat e.0.action e.1
    × CountsReferences zone (take k run) (take (k + 1) run) e.0.seat e.0.action e.1)
