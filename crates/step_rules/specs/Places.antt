-- Where the frames are after a run: a set of pairs of a frame and a place, folded over the run's pairs alone. A step
-- that moves a frame adds its new pair and removes only the old pair that it names.
use Rattle.std.specs.Prelude.{◌≡◌, ℕ, ◌^◌, ◌<◌, ◌==◌, ◌&&◌, ◌||◌, not, Bool, true, false, Option, Some, None, fold, if◌then◌else◌}
use Rattle.step_rules.specs.declared.phase.ChargedUnit.{ChargedUnit}
use Rattle.step_rules.specs.declared.phase.Phase.{Phase}
use Rattle.step_rules.specs.declared.phase.Phase.TheVariants.{InZone, Lent, Head, Tail}
use Rattle.step_rules.specs.declared.step.FramePlace.{FramePlace}
use Rattle.step_rules.specs.declared.step.FramePlace.TheVariants.{Free, LentTo, Charged}
use Rattle.step_rules.specs.declared.step.Step.{Step}
use Rattle.step_rules.specs.declared.step.Action.{Action}
use Rattle.step_rules.specs.declared.step.Action.TheVariants.{PassOut, Collect, Consume, Credit, PlaceBlock, Return}
use Rattle.step_rules.specs.declared.step.Answer.{Answer}
use Rattle.step_rules.specs.declared.step.Answer.TheVariants.{Done, Took, Stocked, Placed}
use Rattle.step_rules.specs.State.{Zone, front_of, is_frame}
use Rattle.step_rules.specs.After.{Run, state_of, IsLegalRun, is_within}
use Rattle.step_rules.specs.Units.{Units, no_units, units_after}

-- a set of pairs of a frame and a place, as the test whether a pair is in it
abbrev pub Places : Type 0
Places = ℕ → FramePlace → Bool

-- the two places are the same
abbrev pub is_same_frame_place : FramePlace → FramePlace → Bool
is_same_frame_place Free Free = true
is_same_frame_place (LentTo cpu) (LentTo other) = cpu == other
is_same_frame_place (Charged g) (Charged h) = g == h
is_same_frame_place _ _ = false

-- at first each frame of the zone is free
abbrev pub places_at_boot : Zone → Places
places_at_boot zone f p = is_frame zone f && is_same_frame_place p Free

-- each of n frames from this one on gains its new place and loses the named old one, and no other
abbrev pub moved : Places → ℕ → ℕ → FramePlace → FramePlace → Places
moved places at n old new f p =
    if is_within at n f then is_same_frame_place p new
    || (places f p && not (is_same_frame_place p old)) else places f p

-- the frames of a unit that is returned lose the place at its group and gain Free
abbrev pub returned : Places → ℕ → Option ChargedUnit → Places
returned places f None = places
returned places f (Some unit) = moved places f (2 ^ unit.order) (Charged unit.group) Free

-- a fresh frame that is credited loses the place at its group and gains that on the CPU's list
abbrev pub credited_place : Places → ℕ → ℕ → Option ChargedUnit → Places
credited_place places cpu f None = places
credited_place places cpu f (Some unit) = moved places f 1 (Charged unit.group) (LentTo cpu)

-- The places after one more step. A frame passed out goes from Free to LentTo; a listed frame that is collected goes
-- back to Free. A consume moves the front of the list to the group that pays, a credit moves it back. A placed block
-- goes from Free to its group, a returned unit from there to Free.
abbrev pub places_after : Units → Places → ℕ → Action → Answer → Places
places_after units places seat (PassOut f cpu) Done = moved places f 1 Free (LentTo cpu)
places_after units places seat (Collect f cpu) Done = if places f (LentTo cpu) then moved places f 1 (LentTo cpu)
    Free else places
places_after units places seat (Consume g) Took = moved places (front_of (units.hands seat).list) 1 (LentTo seat)
    (Charged g)
places_after units places seat (Credit f) Stocked = credited_place places seat f (units.unit f)
places_after units places seat (PlaceBlock g k) (Placed b) = moved places b.at (2 ^ k) Free (Charged g)
places_after units places seat (Return f) Done = returned places f (units.unit f)
places_after units places seat action answer = places

-- the units of the run, and the places, after one more pair
abbrev pub with_places : Units × Places → Step × Answer → Units × Places
with_places t e = (units_after t.0 e.0.seat e.0.action e.1, places_after t.0 t.1 e.0.seat e.0.action e.1)

-- the set of pairs after a run
abbrev pub places_of : Zone → Run → Places
places_of zone run = (fold with_places (no_units, places_at_boot zone) run).1

-- the frame has one place, and no other
pub record HasOnePlace (places : Places) (f : ℕ) : Type 0 where
  pub place : FramePlace
  pub there : places f place ≡ true
  pub only : (p : FramePlace) → places f p ≡ true → p ≡ place

-- the place of a frame in this phase
abbrev pub place_in : Phase → FramePlace
place_in InZone = Free
place_in (Lent cpu way) = LentTo cpu
place_in (Head unit stage) = Charged unit.group
place_in (Tail g) = Charged g

-- after the run each frame of the zone has exactly one place, that of its phase, and no other frame has any
pub record PlacesFollowRun (zone : Zone) (run : Run) : Type 0 where
  pub one : (f : ℕ) → f < zone.frames → HasOnePlace (places_of zone run) f
  pub told : (f : ℕ) (p : FramePlace)
      → places_of zone run f p ≡ (is_frame zone f && is_same_frame_place p (place_in ((state_of zone run).phases f)))

-- after every legal run each frame of the zone has exactly one place, that of its phase
abbrev pub EveryFrameHasOnePlace : Type 0
EveryFrameHasOnePlace = (zone : Zone) (run : Run) → IsLegalRun zone run → PlacesFollowRun zone run
