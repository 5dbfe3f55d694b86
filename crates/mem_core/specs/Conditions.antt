-- The conditions of the table of rules, each as a test of a state.
use Rattle.std.specs.Prelude.{ℕ, ◌+◌, ◌^◌, ◌==◌, ◌||◌, nat_le, nat_lt, not, Bool, List, [], ◌∷◌, Option, find, is_none, length}
use Rattle.group_tree.specs.Groups.{has_group, has_child, make_fault}
use Rattle.step_rules.specs.State.{State}
use Rattle.step_rules.specs.{is_cpu, is_frame, is_unheld, is_held_by, visits, may_zone_act, live_references, pins_of, has_as, is_free, is_head}
use Rattle.step_rules.specs.{is_head_in_hand, is_returnable, passes_back, passes_out, is_passable, no_frame_passes, no_page_pends, nothing_passes}
use Rattle.step_rules.specs.{takes_fill, usage_of}
use Rattle.step_rules.specs.Phases.{FreshFrame}
use Rattle.step_rules.specs.declared.step.Action.{Action}
use Rattle.step_rules.specs.declared.step.Action.TheVariants.{Lock, Unlock, OpenVisit, ShutVisit, Get, Put, Freeze, Unfreeze, PassOut, TakeIn}
use Rattle.step_rules.specs.declared.step.Action.TheVariants.{PassBack, Collect, Consume, Credit, Report, Absorb, Fill, DrainStock, Grant, Ungrant}
use Rattle.step_rules.specs.declared.step.Action.TheVariants.{PlaceBlock, Publish, Return, Note, NoteGroupKill, SetMax, SetFlag, Make, Remove, Kill}
use Rattle.mem_core.specs.declared.quantity.Quantity.{Quantity}
use Rattle.mem_core.specs.declared.quantity.Quantity.TheVariants.{Own, References, Pins, Listed, Fresh, Unreported, Reported, InStock, Pending, Usage}
use Rattle.mem_core.specs.declared.conditions.PlaceTest.{PlaceTest}
use Rattle.mem_core.specs.declared.conditions.PlaceTest.TheVariants.{Free, OutTo, Passable, BackFrom, FreshAt, InHand, Head, Returnable}
use Rattle.mem_core.specs.declared.conditions.Condition.{Condition}
use Rattle.mem_core.specs.declared.conditions.Condition.TheVariants.{Cpu, ZoneSeat, AnySeat, Locked, Unlocked, HeldBy, Visited, Frame, Group}
use Rattle.mem_core.specs.declared.conditions.Condition.TheVariants.{NonePending, NonePassing, NonePassingAt, AtLeast, Below, IsZero, OneUp, UpTo255}
use Rattle.mem_core.specs.declared.conditions.Condition.TheVariants.{InPlace, TakesFill, NotKilled, NotRoot, NoChild, Makeable}

-- the number in a state
abbrev pub quantity_in : State → Quantity → ℕ
quantity_in s (Own seat f) = s.references seat f
quantity_in s (References f) = live_references s f
quantity_in s (Pins cpu) = pins_of s cpu + length (s.parts cpu).back
quantity_in s (Listed cpu) = length (s.parts cpu).list
quantity_in s (Fresh cpu) = length (s.parts cpu).fresh
quantity_in s (Unreported cpu) = (s.parts cpu).unreported
quantity_in s (Reported cpu) = (s.parts cpu).reported
quantity_in s (InStock cpu) = (s.parts cpu).stock.pages
quantity_in s (Pending g) = s.pending g
quantity_in s (Usage g) = usage_of s g

-- the frame is in this place
abbrev pub is_in_place : State → ℕ → PlaceTest → Bool
is_in_place s f Free = is_free (s.phases f)
is_in_place s f (OutTo cpu) = passes_out cpu (s.phases f)
is_in_place s f (Passable cpu) = is_passable s cpu f
is_in_place s f (BackFrom cpu) = passes_back cpu (s.phases f)
is_in_place s f (FreshAt cpu) = has_as FreshFrame cpu (s.phases f)
is_in_place s f InHand = is_head_in_hand (s.phases f)
is_in_place s f Head = is_head (s.phases f)
is_in_place s f Returnable = is_returnable s.killed (s.phases f)

-- the condition is met in a state
abbrev pub is_met : State → Condition → Bool
is_met s (Cpu seat) = is_cpu s.zone seat
is_met s (ZoneSeat seat) = seat == 0
is_met s (AnySeat seat) = is_cpu s.zone seat || may_zone_act s.hold seat
is_met s Locked = not (is_unheld s.hold)
is_met s Unlocked = is_unheld s.hold
is_met s (HeldBy cpu) = is_held_by cpu s.hold
is_met s (Visited cpu) = visits cpu s.hold
is_met s (Frame f) = is_frame s.zone f
is_met s (Group g) = has_group s.groups g
is_met s NonePending = no_page_pends s
is_met s NonePassing = no_frame_passes s
is_met s (NonePassingAt cpu) = nothing_passes s cpu
is_met s (AtLeast what n) = nat_le n (quantity_in s what)
is_met s (Below what n) = nat_lt (quantity_in s what) n
is_met s (IsZero what) = quantity_in s what == 0
is_met s (OneUp n) = nat_le 1 n
is_met s (UpTo255 n) = nat_le n 255
is_met s (InPlace f test) = is_in_place s f test
is_met s (TakesFill cpu g) = takes_fill (s.parts cpu) g
is_met s (NotKilled g) = not (s.killed g)
is_met s (NotRoot g) = not (g == 0)
is_met s (NoChild g) = not (has_child s.groups g)
is_met s (Makeable path) = is_none (make_fault s.groups path)

-- the conditions of a step by seat 0, after the two that each such step has
abbrev pub zone_conditions : Action → List Condition
zone_conditions (OpenVisit cpu) = HeldBy cpu ∷ []
zone_conditions (ShutVisit cpu) = Visited cpu ∷ NonePassingAt cpu ∷ IsZero (Unreported cpu) ∷ IsZero (Reported cpu) ∷ []
zone_conditions (Freeze f n) = Frame f ∷ OneUp n ∷ AtLeast (Own 0 f) n ∷ []
zone_conditions (Unfreeze f n) = Frame f ∷ InPlace f InHand ∷ OneUp n ∷ UpTo255 n ∷ []
zone_conditions (PassOut f cpu) = Frame f ∷ Visited cpu ∷ InPlace f Free ∷ []
zone_conditions (Collect f cpu) = Frame f ∷ Cpu cpu ∷ InPlace f (BackFrom cpu) ∷ []
zone_conditions (Absorb cpu) = Visited cpu ∷ []
zone_conditions (Fill cpu g n) = Visited cpu ∷ Group g ∷ TakesFill cpu g ∷ AtLeast (Pending g) n ∷ []
zone_conditions (DrainStock cpu) = Cpu cpu ∷ []
zone_conditions (Grant g n) = Group g ∷ NotKilled g ∷ []
zone_conditions (Ungrant g n) = Group g ∷ AtLeast (Pending g) n ∷ []
zone_conditions (PlaceBlock g k) = Group g ∷ AtLeast (Pending g) (2 ^ k) ∷ []
zone_conditions (Publish f) = Frame f ∷ InPlace f Head ∷ AtLeast (Own 0 f) 1 ∷ []
zone_conditions (Return f) = Frame f ∷ InPlace f Returnable ∷ []
zone_conditions (Note key g) = Group g ∷ []
zone_conditions (NoteGroupKill g) = Group g ∷ NotRoot g ∷ []
zone_conditions (SetMax g limit) = Group g ∷ NotRoot g ∷ []
zone_conditions (SetFlag g flag) = Group g ∷ NotRoot g ∷ []
zone_conditions (Make path) = Makeable path ∷ []
zone_conditions (Remove g) = Group g ∷ NotRoot g ∷ NoChild g ∷ IsZero (Usage g) ∷ []
zone_conditions (Kill g) = Group g ∷ NotKilled g ∷ []
zone_conditions action = []

-- the conditions of a step, in the order in which a check looks at them
abbrev pub conditions_of : ℕ → Action → List Condition
conditions_of seat Lock = Cpu seat ∷ Unlocked ∷ []
conditions_of seat Unlock = Cpu seat ∷ HeldBy seat ∷ NonePending ∷ NonePassing ∷ []
conditions_of seat (Get f) = Cpu seat ∷ Frame f ∷ Below (Pins seat) 256 ∷ []
conditions_of seat (Put f) = AnySeat seat ∷ Frame f ∷ AtLeast (Own seat f) 1 ∷ []
conditions_of seat (TakeIn f) = Cpu seat ∷ Frame f ∷ InPlace f (OutTo seat) ∷ []
conditions_of seat (PassBack f) = Cpu seat ∷ Frame f ∷ Visited seat ∷ InPlace f (Passable seat) ∷ []
conditions_of seat (Consume g) = Cpu seat ∷ AtLeast (Listed seat) 1 ∷ Below (Fresh seat) 32 ∷ []
conditions_of seat (Credit f) = Cpu seat ∷ Frame f ∷ InPlace f (FreshAt seat) ∷ []
conditions_of seat (Report n) = Cpu seat ∷ Visited seat ∷ AtLeast (Unreported seat) n ∷ []
conditions_of seat action = ZoneSeat seat ∷ Locked ∷ zone_conditions action

-- the first condition that isn't met
abbrev pub first_unmet : State → List Condition → Option Condition
first_unmet s conditions = find (λ condition. not (is_met s condition)) conditions
