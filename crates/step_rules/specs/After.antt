-- What a step changes, and the state that a list of steps leads to.
use Rattle.std.specs.Prelude.{ℕ, ◌+◌, ◌-◌, ◌^◌, ◌==◌, ◌&&◌, nat_le, nat_lt, Bool, true, false, Option, Some, None}
use Rattle.std.specs.Prelude.{is_some, List, take, slice_get, IfSome, fold, if◌then◌else◌}
use Rattle.zone_blocks.specs.declared.block.Block.{Block}
use Rattle.group_tree.specs.Groups.{with_group, with_limit, with_oom_group, without_group}
use Rattle.step_rules.specs.declared.phase.ChargedUnit.{ChargedUnit}
use Rattle.step_rules.specs.declared.phase.Hold.TheVariants.{Unheld, HeldBy, Visiting}
use Rattle.step_rules.specs.declared.phase.Way.TheVariants.{PassingOut, OnList}
use Rattle.step_rules.specs.declared.phase.Stage.TheVariants.{FreshAt, Bare, Live, AwaitsReturn}
use Rattle.step_rules.specs.declared.phase.Phase.{Phase}
use Rattle.step_rules.specs.declared.phase.Phase.TheVariants.{InZone, Lent, Head, Tail}
use Rattle.step_rules.specs.declared.step.Step.{Step}
use Rattle.step_rules.specs.declared.step.Action.{Action}
use Rattle.step_rules.specs.declared.step.Action.TheVariants.{Lock, Unlock, OpenVisit, ShutVisit, Get, Put, Freeze, Unfreeze, PassOut, TakeIn}
use Rattle.step_rules.specs.declared.step.Action.TheVariants.{PassBack, Collect, Consume, Credit, Report, Absorb, Fill, DrainStock, Grant, Ungrant}
use Rattle.step_rules.specs.declared.step.Action.TheVariants.{PlaceBlock, Return, SetMax, SetFlag, Make, Remove, Kill}
use Rattle.step_rules.specs.declared.step.Answer.{Answer}
use Rattle.step_rules.specs.declared.step.Answer.TheVariants.{Done, Held, Left, Last, Took, Stocked, Pages, Granted, Placed, Number}
use Rattle.step_rules.specs.Phases.{FreshFrame, has_as, unit_of, at_stage, stage_after_last, passed_back, collected}
use Rattle.step_rules.specs.State.{Zone, Part, State, at_boot, with_at, one_if, without, with_last, front_of}
use Rattle.step_rules.specs.Legal.{Allows}

-- a step of the zone's own seat, with its answer
abbrev pub zone_makes : Action → Answer → Step × Answer
zone_makes action answer = (record { seat = 0; action = action }, answer)

-- a step of a CPU's seat, with its answer
abbrev pub cpu_makes : ℕ → Action → Answer → Step × Answer
cpu_makes cpu action answer = (record { seat = cpu; action = action }, answer)

-- one frame gets another phase
abbrev pub with_phase : State → ℕ → Phase → State
with_phase s f phase = record s { phases = with_at s.phases f phase }

-- one CPU gets another part
abbrev pub with_part : State → ℕ → Part → State
with_part s cpu part = record s { parts = with_at s.parts cpu part }

-- the seat gets this many references on the frame
abbrev pub with_references : State → ℕ → ℕ → ℕ → State
with_references s seat f n = record s { references = with_at s.references seat (with_at (s.references seat) f n) }

-- this many pages are pending for the group
abbrev pub with_pending : State → ℕ → ℕ → State
with_pending s g n = record s { pending = with_at s.pending g n }

-- the frame is one of n frames, of which `at` is the first
abbrev pub is_within : ℕ → ℕ → ℕ → Bool
is_within at n f = nat_le at f && nat_lt f (at + n)

-- the phase of a frame of a placed block: of the head, or of another frame
abbrev pub placed_phase : ℕ → Block → ℕ → Phase
placed_phase g b f = if f == b.at then Head (record { group = g; order = b.order }) Bare else Tail g

-- the phases, with those of a block that is placed
abbrev pub with_block : (ℕ → Phase) → ℕ → Block → ℕ → Phase
with_block phases g b f = if is_within b.at (2 ^ b.order) f then placed_phase g b f else phases f

-- how many frames are returned together with this one: those of its unit
abbrev pub unit_size : Option ChargedUnit → ℕ
unit_size None = 1
unit_size (Some unit) = 2 ^ unit.order

-- the phases, with the frames of a unit free again
abbrev pub without_unit : (ℕ → Phase) → ℕ → ℕ → Phase
without_unit phases f x = if is_within f (unit_size (unit_of (phases f))) x then InZone else phases x

-- the part with the frame at the end of its list
abbrev pub with_listed : Part → ℕ → Part
with_listed part f = record part { list = with_last part.list f }

-- the part with the frame on none of its lists; if it was fresh, one more page is unreported
abbrev pub with_unlisted : Part → ℕ → Bool → Part
with_unlisted part f was_fresh = record part {
  list = without f part.list;
  fresh = without f part.fresh;
  back = without f part.back;
  unreported = part.unreported + one_if was_fresh;
}

-- the part without a frame that it passes back; if that one was fresh, one more page is unreported
abbrev pub without_frame : Part → Phase → ℕ → ℕ → Part
without_frame part phase cpu f = with_unlisted part f (has_as FreshFrame cpu phase)

-- the part with n of its unreported pages reported
abbrev pub with_report : Part → ℕ → Part
with_report part n = record part { unreported = part.unreported - n; reported = part.reported + n }

-- the part with n reported pages taken off its book
abbrev pub absorbed : Part → ℕ → Part
absorbed part n = record part { book = part.book - n; reported = part.reported - n }

-- the front of the list becomes fresh, paid with one page of the stock
abbrev pub paid : Part → Part
paid part = record part {
  list = without (front_of part.list) part.list;
  fresh = with_last part.fresh (front_of part.list);
  stock = record (part.stock) { pages = part.stock.pages - 1 };
}

-- the fresh frame moves to the end of the list, and its page into the stock
abbrev pub credited : Part → ℕ → Part
credited part f = record part {
  list = with_last part.list f;
  fresh = without f part.fresh;
  stock = record (part.stock) { pages = part.stock.pages + 1 };
}

-- after a last put by the CPU itself: the frame is at the end of its back frames
abbrev pub with_back : Part → ℕ → Part
with_back part f = record part { back = with_last part.back f }

-- the part with n pages of this group filled into its stock
abbrev pub filled : Part → ℕ → ℕ → Part
filled part g n = record part { stock = record { group = Some g; pages = n; is_drained = false }; book = part.book + n }

-- the part with n pages drained from its stock
abbrev pub drained : Part → ℕ → Part
drained part n = record part {
  stock =
      record (part.stock) { pages = part.stock.pages - n; is_drained = is_some part.stock.group };
  book = part.book - n;
}

-- the pending pages, with n more for a group, if there is one
abbrev pub with_more : (ℕ → ℕ) → Option ℕ → ℕ → ℕ → ℕ
with_more pending None n = pending
with_more pending (Some g) n = with_at pending g (pending g + n)

-- the front of the list becomes fresh: a unit of one frame, of the group that paid
abbrev pub consumed : ℕ → ℕ → Phase
consumed cpu g = Head (record { group = g; order = 0 }) (FreshAt cpu)

-- the state after a last put by the seat; if a CPU made it, the frame joins its back frames
abbrev pub after_last : State → ℕ → ℕ → State
after_last s seat f = record s {
  references = with_at s.references seat (with_at (s.references seat) f (s.references seat f - 1));
  phases = with_at s.phases f (at_stage (stage_after_last seat) (s.phases f));
  parts = if seat == 0 then s.parts else with_at s.parts seat (with_back (s.parts seat) f);
}

-- the state after a step with its answer; a pair that isn't in this table changes nothing
abbrev pub after : State → ℕ → Action → Answer → State
after s seat Lock Done = record s { hold = HeldBy seat }
after s seat Unlock Done = record s { hold = Unheld }
after s seat (OpenVisit cpu) Done = record s { hold = Visiting cpu }
after s seat (ShutVisit cpu) Done = record s { hold = HeldBy cpu }
after s seat (Get f) Held = with_references s seat f (s.references seat f + 1)
after s seat (Put f) (Left n) = with_references s seat f (s.references seat f - 1)
after s seat (Put f) Last = after_last s seat f
after s seat (Freeze f n) Done = with_phase (with_references s 0 f (s.references 0 f - n)) f
    (at_stage AwaitsReturn (s.phases f))
after s seat (Unfreeze f n) Done = with_phase (with_references s 0 f (s.references 0 f + n)) f
    (at_stage Live (s.phases f))
after s seat (PassOut f cpu) Done = with_phase s f (Lent cpu PassingOut)
after s seat (TakeIn f) Done = with_part (with_phase s f (Lent seat OnList)) seat (with_listed (s.parts seat) f)
after s seat (PassBack f) Done = with_part (with_phase s f (passed_back (s.phases f))) seat
    (without_frame (s.parts seat) (s.phases f) seat f)
after s seat (Collect f cpu) Done = with_phase s f (collected (s.phases f))
after s seat (Consume g) Took = with_part (with_phase s (front_of (s.parts seat).list) (consumed seat g)) seat
    (paid (s.parts seat))
after s seat (Credit f) Stocked = with_part (with_phase s f (Lent seat OnList)) seat (credited (s.parts seat) f)
after s seat (Report n) Done = with_part s seat (with_report (s.parts seat) n)
after s seat (Absorb cpu) (Pages n) = with_part s cpu (absorbed (s.parts cpu) n)
after s seat (Fill cpu g n) Done = with_part (with_pending s g (s.pending g - n)) cpu (filled (s.parts cpu) g n)
after s seat (DrainStock cpu) (Pages n) =
    record (with_part s cpu (drained (s.parts cpu) n)) { pending = with_more s.pending (s.parts cpu).stock.group n }
after s seat (Grant g n) Granted = with_pending s g (s.pending g + n)
after s seat (Ungrant g n) Done = with_pending s g (s.pending g - n)
after s seat (PlaceBlock g k) (Placed b) =
    record (with_pending s g (s.pending g - 2 ^ k)) { phases = with_block s.phases g b }
after s seat (Return f) Done = record s { phases = without_unit s.phases f }
after s seat (SetMax g limit) Done = record s { groups = with_limit s.groups g limit }
after s seat (SetFlag g flag) Done = record s { groups = with_oom_group s.groups g flag }
after s seat (Make path) (Number n) =
    record s { groups = with_group s.groups n path; killed = with_at s.killed n false }
after s seat (Remove g) Done = record s { groups = without_group s.groups g }
after s seat (Kill g) Done = record s { killed = with_at s.killed g true }
after s seat action answer = s

-- the steps that were made, in order, each with its answer
abbrev pub Run : Type 0
Run = List (Step × Answer)

-- the state that a run leads to
abbrev pub state_of : Zone → Run → State
state_of zone run = fold (λ s e. after s e.0.seat e.0.action e.1) (at_boot zone) run

-- what a CPU has after a run: its lists, its stock and its book
abbrev pub part_after : Zone → Run → ℕ → Part
part_after zone run cpu = (state_of zone run).parts cpu

-- each answer is allowed after the beginning before it
abbrev pub IsLegalRun : Zone → Run → Type 0
IsLegalRun zone run = (k : ℕ) → IfSome (slice_get run k)
    (λ e. Allows (state_of zone (take k run)) e.0.seat e.0.action e.1)
