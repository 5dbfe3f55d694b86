-- Which steps may be made, and which answers each of them may get.
use Rattle.std.specs.Prelude.{◌≡◌, ◌≢◌, ℕ, ◌+◌, ◌^◌, ◌≤◌, ◌==◌, ◌&&◌, ◌||◌, nat_le, nat_lt, not, Bool, true, false}
use Rattle.std.specs.Prelude.{Option, Some, None, is_none, length, if◌then◌else◌}
use Rattle.zone_blocks.specs.declared.block.Block.{Block}
use Rattle.zone_blocks.specs.Areas.{IsFreeBlock}
use Rattle.group_tree.specs.{most_groups, has_group, has_child, make_fault, IsLeastFreeNumber, PathHasRoom, IsLowestOver}
use Rattle.step_rules.specs.declared.step.Action.{Action}
use Rattle.step_rules.specs.declared.step.Action.TheVariants.{Lock, Unlock, OpenVisit, ShutVisit, Get, Put, Freeze, Unfreeze, PassOut, TakeIn}
use Rattle.step_rules.specs.declared.step.Action.TheVariants.{PassBack, Collect, Consume, Credit, Report, Absorb, Fill, DrainStock, Grant, Ungrant}
use Rattle.step_rules.specs.declared.step.Action.TheVariants.{PlaceBlock, Publish, Return, Note, NoteGroupKill, SetMax, SetFlag, Make, Remove, Kill}
use Rattle.step_rules.specs.declared.step.Answer.{Answer}
use Rattle.step_rules.specs.declared.step.Answer.TheVariants.{Illegal, Done, Held, Zero, Full, Left, Last, Missed, Took, Empty, OtherGroup, Drained}
use Rattle.step_rules.specs.declared.step.Answer.TheVariants.{Stocked, Pages, Granted, Over, Placed, NoFreeBlock, Number}
use Rattle.step_rules.specs.Phases.{ListFrame, FreshFrame, is_free, is_head, has_as, passes_out, passes_back}
use Rattle.step_rules.specs.Phases.{is_passing, is_head_in_hand, is_returnable}
use Rattle.step_rules.specs.Phases as kinds
use Rattle.step_rules.specs.State.{State, Part, all_to, front_of, is_cpu, is_frame, is_unheld, is_held_by, visits, most_references, most_fresh}
use Rattle.step_rules.specs.State.{may_zone_act, live_references, pins_of, free_in, most_pins}
use Rattle.step_rules.specs.Usage.{usage_of}

-- the frame is not in transit to or from the CPU
abbrev pub rests : State → ℕ → ℕ → Bool
rests s cpu f = not (passes_out cpu (s.phases f)) && not (passes_back cpu (s.phases f))

-- no frame is in transit to or from the CPU
abbrev pub nothing_passes : State → ℕ → Bool
nothing_passes s cpu = all_to s.zone.frames (rests s cpu)

-- no frame is in transit
abbrev pub no_frame_passes : State → Bool
no_frame_passes s = all_to s.zone.frames (λ f. not (is_passing (s.phases f)))

-- no page of any group is pending
abbrev pub no_page_pends : State → Bool
no_page_pends s = all_to most_groups (λ g. s.pending g == 0)

-- the frame is the front of the CPU's list, a fresh frame there or a back frame there
abbrev pub is_passable : State → ℕ → ℕ → Bool
is_passable s cpu f =
    has_as ListFrame cpu (s.phases f) && front_of (s.parts cpu).list == f || has_as FreshFrame cpu (s.phases f)
    || has_as kinds.BackFrame cpu (s.phases f)

-- the stock is of this group
abbrev pub is_of_group : Option ℕ → ℕ → Bool
is_of_group None g = false
is_of_group (Some h) g = h == g

-- the stock has no page, and the book is 0 or the stock is of the group
abbrev pub takes_fill : Part → ℕ → Bool
takes_fill part g = part.stock.pages == 0 && (part.book == 0 || is_of_group part.stock.group g)

-- the group exists, isn't the root, has no child, and its usage is 0
abbrev pub is_removable : State → ℕ → Bool
is_removable s g = has_group s.groups g && not (g == 0) && not (has_child s.groups g) && usage_of s g == 0

-- whether the seat may make the step
abbrev pub is_legal : State → ℕ → Action → Bool
is_legal s seat Lock = is_cpu s.zone seat && is_unheld s.hold
is_legal s seat Unlock = is_cpu s.zone seat && is_held_by seat s.hold && no_page_pends s && no_frame_passes s
is_legal s seat (OpenVisit cpu) = may_zone_act s.hold seat && is_held_by cpu s.hold
is_legal s seat (ShutVisit cpu) = may_zone_act s.hold seat && visits cpu s.hold && nothing_passes s cpu
    && (s.parts cpu).unreported == 0 && (s.parts cpu).reported == 0
is_legal s seat (Get f) = is_cpu s.zone seat && is_frame s.zone f
    && nat_lt (pins_of s seat + length (s.parts seat).back) most_pins
is_legal s seat (Put f) = (is_cpu s.zone seat || may_zone_act s.hold seat) && is_frame s.zone f
    && nat_le 1 (s.references seat f)
is_legal s seat (Freeze f n) = may_zone_act s.hold seat && is_frame s.zone f && nat_le 1 n
    && nat_le n (s.references 0 f)
is_legal s seat (Unfreeze f n) = may_zone_act s.hold seat && is_frame s.zone f && is_head_in_hand (s.phases f)
    && nat_le 1 n && nat_le n most_references
is_legal s seat (PassOut f cpu) = may_zone_act s.hold seat && is_frame s.zone f && visits cpu s.hold
    && is_free (s.phases f)
is_legal s seat (TakeIn f) = is_cpu s.zone seat && is_frame s.zone f && passes_out seat (s.phases f)
is_legal s seat (PassBack f) = is_cpu s.zone seat && is_frame s.zone f && visits seat s.hold && is_passable s seat f
is_legal s seat (Collect f cpu) = may_zone_act s.hold seat && is_frame s.zone f && is_cpu s.zone cpu
    && passes_back cpu (s.phases f)
is_legal s seat (Consume g) = is_cpu s.zone seat && nat_le 1 (length (s.parts seat).list)
    && nat_lt (length (s.parts seat).fresh) most_fresh
is_legal s seat (Credit f) = is_cpu s.zone seat && is_frame s.zone f && has_as FreshFrame seat (s.phases f)
is_legal s seat (Report n) = is_cpu s.zone seat && visits seat s.hold && nat_le n (s.parts seat).unreported
is_legal s seat (Absorb cpu) = may_zone_act s.hold seat && visits cpu s.hold
is_legal s seat (Fill cpu g n) = may_zone_act s.hold seat && visits cpu s.hold && has_group s.groups g
    && takes_fill (s.parts cpu) g && nat_le n (s.pending g)
is_legal s seat (DrainStock cpu) = may_zone_act s.hold seat && is_cpu s.zone cpu
is_legal s seat (Grant g n) = may_zone_act s.hold seat && has_group s.groups g && not (s.killed g)
is_legal s seat (Ungrant g n) = may_zone_act s.hold seat && has_group s.groups g && nat_le n (s.pending g)
is_legal s seat (PlaceBlock g k) = may_zone_act s.hold seat && has_group s.groups g && nat_le (2 ^ k) (s.pending g)
is_legal s seat (Publish f) = may_zone_act s.hold seat && is_frame s.zone f && is_head (s.phases f)
    && nat_le 1 (s.references 0 f)
is_legal s seat (Return f) = may_zone_act s.hold seat && is_frame s.zone f && is_returnable s.killed (s.phases f)
is_legal s seat (Note key g) = may_zone_act s.hold seat && has_group s.groups g
is_legal s seat (NoteGroupKill g) = may_zone_act s.hold seat && has_group s.groups g && not (g == 0)
is_legal s seat (SetMax g limit) = may_zone_act s.hold seat && has_group s.groups g && not (g == 0)
is_legal s seat (SetFlag g flag) = may_zone_act s.hold seat && has_group s.groups g && not (g == 0)
is_legal s seat (Make path) = may_zone_act s.hold seat && is_none (make_fault s.groups path)
is_legal s seat (Remove g) = may_zone_act s.hold seat && is_removable s g
is_legal s seat (Kill g) = may_zone_act s.hold seat && has_group s.groups g && not (s.killed g)

-- Which answers a legal step may get, apart from what others' references and stocks decide. A stock pays if it is of
-- the group, isn't drained and has a page. Pages are granted exactly if every limit on the path has room for them. Any
-- free block of the order may be placed; NoFreeBlock is answered only if there is none.
abbrev pub IsAnswer : State → ℕ → Action → Answer → Type 0
IsAnswer s seat Lock Done = Unit {0}
IsAnswer s seat Unlock Done = Unit {0}
IsAnswer s seat (OpenVisit cpu) Done = Unit {0}
IsAnswer s seat (ShutVisit cpu) Done = Unit {0}
IsAnswer s seat (Get f) Held = Unit {0}
IsAnswer s seat (Get f) Zero = Unit {0}
IsAnswer s seat (Get f) Full = Unit {0}
IsAnswer s seat (Put f) (Left n) = Unit {0}
IsAnswer s seat (Put f) Last = Unit {0}
IsAnswer s seat (Freeze f n) Done = Unit {0}
IsAnswer s seat (Freeze f n) Missed = Unit {0}
IsAnswer s seat (Unfreeze f n) Done = Unit {0}
IsAnswer s seat (PassOut f cpu) Done = Unit {0}
IsAnswer s seat (TakeIn f) Done = Unit {0}
IsAnswer s seat (PassBack f) Done = Unit {0}
IsAnswer s seat (Collect f cpu) Done = Unit {0}
IsAnswer s seat (Consume g) Took = ((s.parts seat).stock.group ≡ Some g) × ((s.parts seat).stock.is_drained ≡ false)
    × (1 ≤ (s.parts seat).stock.pages)
IsAnswer s seat (Consume g) Empty = ((s.parts seat).stock.group ≡ Some g) × ((s.parts seat).stock.is_drained ≡ false)
    × ((s.parts seat).stock.pages ≡ 0)
IsAnswer s seat (Consume g) Drained = ((s.parts seat).stock.group ≡ Some g) × ((s.parts seat).stock.is_drained ≡ true)
IsAnswer s seat (Consume g) OtherGroup = (s.parts seat).stock.group ≢ Some g
IsAnswer s seat (Credit f) Stocked = (s.parts seat).stock.is_drained ≡ false
IsAnswer s seat (Credit f) Drained = (s.parts seat).stock.is_drained ≡ true
IsAnswer s seat (Report n) Done = Unit {0}
IsAnswer s seat (Absorb cpu) (Pages n) = n ≡ (s.parts cpu).reported
IsAnswer s seat (Fill cpu g n) Done = Unit {0}
IsAnswer s seat (DrainStock cpu) (Pages n) = Unit {0}
IsAnswer s seat (Grant g n) Granted = PathHasRoom s.groups (usage_of s) g n
IsAnswer s seat (Grant g n) (Over m) = IsLowestOver s.groups (usage_of s) g n m
IsAnswer s seat (Ungrant g n) Done = Unit {0}
IsAnswer s seat (PlaceBlock g k) (Placed b) = (b.order ≡ k) × IsFreeBlock (free_in s.zone s.phases) b
IsAnswer s seat (PlaceBlock g k) NoFreeBlock = (b : Block) → b.order ≡ k → ¬ IsFreeBlock (free_in s.zone s.phases) b
IsAnswer s seat (Publish f) Done = Unit {0}
IsAnswer s seat (Return f) Done = Unit {0}
IsAnswer s seat (Note key g) Done = Unit {0}
IsAnswer s seat (NoteGroupKill g) Done = Unit {0}
IsAnswer s seat (SetMax g limit) Done = Unit {0}
IsAnswer s seat (SetFlag g flag) Done = Unit {0}
IsAnswer s seat (Make path) (Number n) = IsLeastFreeNumber s.groups n
IsAnswer s seat (Remove g) Done = Unit {0}
IsAnswer s seat (Kill g) Done = Unit {0}
IsAnswer s seat action answer = ⊥

-- what a get is answered with this many references: Held if there are some and one more can be, Full with the most, else Zero
abbrev pub get_answer : ℕ → Answer
get_answer live = if nat_le 1 live && nat_le live 254 then Held else (if live == most_references then Full else Zero)

-- What others' references and stocks decide. A get depends on all references on the frame, a put on how many are left,
-- a freeze on whether they are exactly this many, and a drain on the pages of the stock.
abbrev pub IsCounted : State → Action → Answer → Type 0
IsCounted s (Get f) answer = answer ≡ get_answer (live_references s f)
IsCounted s (Put f) (Left n) = (live_references s f ≡ n + 1) × (1 ≤ n)
IsCounted s (Put f) Last = live_references s f ≡ 1
IsCounted s (Freeze f n) Done = live_references s f ≡ n
IsCounted s (Freeze f n) Missed = live_references s f ≢ n
IsCounted s (DrainStock cpu) (Pages n) = n ≡ (s.parts cpu).stock.pages
IsCounted s action answer = Unit {0}

-- the step is legal, and this is an answer that it may get
pub record IsMade (s : State) (seat : ℕ) (action : Action) (answer : Answer) : Type 0 where
  pub legal : is_legal s seat action ≡ true
  pub answered : IsAnswer s seat action answer
  pub counted : IsCounted s action answer

-- the answer that a step may get: Illegal exactly if the step is not legal
abbrev pub Allows : State → ℕ → Action → Answer → Type 0
Allows s seat action Illegal = is_legal s seat action ≡ false
Allows s seat action answer = IsMade s seat action answer
