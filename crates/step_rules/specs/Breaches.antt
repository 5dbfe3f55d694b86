-- What breaks the promise: small runs and shown states, each there for one thing that is wrong. So each field of the
-- promise refuses something. One shown state keeps the promise.
use Rattle.std.specs.Prelude.{ℕ, ◌==◌, false, Some, None, List, [], ◌∷◌, ◌++◌, take, codes, if◌then◌else◌}
use Rattle.group_tree.specs.Groups.{new_row}
use Rattle.step_rules.specs.declared.step.Step.{Step}
use Rattle.step_rules.specs.declared.step.Action.TheVariants.{Lock, Get, Put, Freeze, Unfreeze, TakeIn, Consume, Credit}
use Rattle.step_rules.specs.declared.step.Action.TheVariants.{Grant, PlaceBlock, Return, SetMax, Make, Kill}
use Rattle.step_rules.specs.declared.step.Answer.{Answer}
use Rattle.step_rules.specs.declared.step.Answer.TheVariants.{Done, Held, Last, Took, Stocked, Granted, Placed, Number}
use Rattle.step_rules.specs.State.{no_stock, boot_groups, boot_root}
use Rattle.step_rules.specs.After.{Run, IsLegalRun, cpu_makes, zone_makes}
use Rattle.step_rules.specs.Examples.{small_zone, first_visit, hand_over, life_of_a_frame, at_the_borders}
use Rattle.step_rules.specs.Promise.{Shown, KeepsLimits, ReturnsNoFrameTwice, Promise}

-- after the run nothing that is shown keeps the promise
abbrev pub BreaksPromise : Run → Type 0
BreaksPromise run = (shown : Shown) → ¬ Promise small_zone run shown

-- ---- limits
-- two pages are granted, one by one, to a group whose parent has a limit of one
abbrev pub past_a_limit : Run
past_a_limit =
    cpu_makes 1 Lock Done ∷ zone_makes (Make (codes "/a")) (Number 1) ∷ zone_makes (Make (codes "/a/b")) (Number 2)
    ∷ zone_makes (SetMax 1 (Some 1)) Done ∷ zone_makes (Grant 2 1) Granted ∷ zone_makes (Grant 2 1) Granted ∷ []

-- a page is granted to a killed group
abbrev pub granted_when_killed : Run
granted_when_killed = cpu_makes 1 Lock Done ∷ zone_makes (Kill 0) Done ∷ zone_makes (Grant 0 1) Granted ∷ []

-- ---- returns
-- frame 0 is placed, for the root
abbrev pub placed : Run
placed = zone_makes (PlaceBlock 0 0) (Placed (record { at = 0; order = 0 })) ∷ []

-- the last reference of frame 0 is dropped
abbrev pub ended : Run
ended = zone_makes (Freeze 0 0) Done ∷ []

-- a unit is returned that never had a reference
abbrev pub returned_unused : Run
returned_unused = placed ++ zone_makes (Return 0) Done ∷ []

-- a unit is returned on which a reference is left
abbrev pub returned_in_use : Run
returned_in_use = placed ++ zone_makes (Unfreeze 0 2) Done ∷ zone_makes (Freeze 0 1) Done ∷ zone_makes (Return 0) Done ∷ []

-- a frame is returned that heads no unit
abbrev pub returned_in_no_unit : Run
returned_in_no_unit = ended ++ zone_makes (Return 0) Done ∷ []

-- a unit is returned twice for one end
abbrev pub returned_again : Run
returned_again = placed ++ zone_makes (Unfreeze 0 1) Done ∷ zone_makes (Freeze 0 1) Done ∷ zone_makes (Return 0) Done
    ∷ zone_makes (Return 0) Done ∷ []

-- a fresh frame is credited twice
abbrev pub credited_again : Run
credited_again = first_visit ++ cpu_makes 1 (Consume 0) Took ∷ cpu_makes 1 (Credit 0) Stocked ∷ cpu_makes 1 (Credit 0) Stocked ∷ []

-- a fresh frame is credited to which a seat refers
abbrev pub credited_in_use : Run
credited_in_use = first_visit ++ cpu_makes 1 (Consume 0) Took ∷ cpu_makes 2 (Get 0) Held ∷ cpu_makes 1 (Credit 0) Stocked ∷ []

-- the front of an empty list is paid for
abbrev pub consumed_nothing : Run
consumed_nothing = cpu_makes 1 (Consume 0) Took ∷ []

-- the front of a list is paid for, although a unit has the frame
abbrev pub consumed_in_a_unit : Run
consumed_in_a_unit = placed ++ cpu_makes 1 (TakeIn 0) Done ∷ cpu_makes 1 (Consume 0) Took ∷ []

-- a block is placed on the second frame of a unit
abbrev pub placed_on_a_tail : Run
placed_on_a_tail =
    zone_makes (PlaceBlock 0 1) (Placed (record { at = 0; order = 1 }))
    ∷ zone_makes (PlaceBlock 0 0) (Placed (record { at = 1; order = 0 })) ∷ []

-- a block of another order than asked for is placed
abbrev pub placed_smaller : Run
placed_smaller = zone_makes (PlaceBlock 0 1) (Placed (record { at = 0; order = 0 })) ∷ []

-- a frame is placed to which a seat refers
abbrev pub placed_in_use : Run
placed_in_use = cpu_makes 2 (Get 0) Held ∷ placed

-- a frame is placed whose last reference was dropped and that wasn't returned since
abbrev pub placed_ended : Run
placed_ended = ended ++ placed

-- a frame is placed for a group that doesn't exist
abbrev pub placed_for_nobody : Run
placed_for_nobody = zone_makes (PlaceBlock 5 0) (Placed (record { at = 0; order = 0 })) ∷ []

-- after the last reference another one is given
abbrev pub given_after_the_last : Run
given_after_the_last = ended ++ cpu_makes 2 (Get 0) Held ∷ []

-- after the last reference one more is dropped, as the last
abbrev pub put_after_the_last : Run
put_after_the_last = ended ++ cpu_makes 2 (Put 0) Last ∷ []

-- after the last reference the frame is frozen once more
abbrev pub frozen_after_the_last : Run
frozen_after_the_last = ended ++ ended

-- first references are put on a frame that heads no unit
abbrev pub unfrozen_in_no_unit : Run
unfrozen_in_no_unit = zone_makes (Unfreeze 0 1) Done ∷ []

-- first references are put on a frame that has some
abbrev pub unfrozen_in_use : Run
unfrozen_in_use = placed ++ zone_makes (Unfreeze 0 1) Done ∷ zone_makes (Unfreeze 0 1) Done ∷ []

-- ---- references
-- The run is legal and one more step breaks the promise, although that step keeps the limits and returns no frame
-- twice: it only counts references wrongly.
pub record MiscountsReferences (run : Run) (step : Step × Answer) : Type 0 where
  pub before : IsLegalRun small_zone run
  pub limits : KeepsLimits small_zone run step.0.action step.1
  pub returns : ReturnsNoFrameTwice run step.0.seat step.0.action step.1
  pub breaks : BreaksPromise (run ++ step ∷ [])

-- the zone and CPU 2 have a reference on frame 0 each, and CPU 1 holds the lock
abbrev pub referred_twice : Run
referred_twice = take 17 life_of_a_frame

-- only CPU 2 has one
abbrev pub referred_by_one : Run
referred_by_one = take 18 life_of_a_frame

-- frame 0 heads a unit that had no reference yet
abbrev pub never_referred : Run
never_referred = take 4 at_the_borders

-- the zone has 255 references on frame 0
abbrev pub referred_fully : Run
referred_fully = take 6 at_the_borders

-- a reference is given on a frame that has one, but heads no unit
abbrev pub given_in_no_unit : Run
given_in_no_unit = unfrozen_in_no_unit ++ cpu_makes 2 (Get 0) Held ∷ []

-- ---- what is shown
-- frame 0 is kept for the root, frame 1 is free, and CPU 1 has a page of the root in its stock
abbrev pub kept_run : Run
kept_run = first_visit ++ hand_over

-- what is shown after that run and keeps the promise
abbrev pub shown_rightly : Shown
shown_rightly = record {
  areas = record { at = 1; order = 0 } ∷ [];
  lists = λ cpu. [];
  keeper = λ f. if f == 0 then Some 0 else None;
  groups = boot_groups small_zone;
  stocks = λ cpu. if cpu == 1 then record { group = Some 0; pages = 1; is_drained = false } else no_stock;
  current = λ g. 2;
}

-- one CPU has these frames on its list, the others none
abbrev pub at_list : ℕ → List ℕ → ℕ → List ℕ
at_list other frames cpu = if cpu == other then frames else []

-- what is shown after that run breaks the promise
abbrev pub IsShownWrongly : Shown → Type 0
IsShownWrongly shown = ¬ Promise small_zone kept_run shown

-- frame 1 is shown nowhere
abbrev pub seen_nowhere : Shown
seen_nowhere = record shown_rightly { areas = [] }

-- frame 1 is shown in the free areas and on a list
abbrev pub seen_twice : Shown
seen_twice = record shown_rightly { lists = at_list 1 (1 ∷ []) }

-- frame 1 is shown twice on a list
abbrev pub listed_twice : Shown
listed_twice = record shown_rightly { areas = []; lists = at_list 1 (1 ∷ 1 ∷ []) }

-- frame 1 is shown on the list of a CPU that doesn't exist
abbrev pub listed_by_nobody : Shown
listed_by_nobody = record shown_rightly { areas = []; lists = at_list 3 (1 ∷ []) }

-- frame 1 is shown as kept by the root, without a unit
abbrev pub kept_in_no_unit : Shown
kept_in_no_unit = record shown_rightly { areas = []; keeper = λ f. Some 0 }

-- a frame is shown that the zone doesn't have
abbrev pub seen_beyond : Shown
seen_beyond = record shown_rightly { lists = at_list 1 (2 ∷ []) }

-- a page is shown as prepaid for no group
abbrev pub prepaid_for_nobody : Shown
prepaid_for_nobody = record shown_rightly {
  stocks = λ cpu. if cpu == 1 then record { group = None; pages = 1; is_drained = false }
      else no_stock;
}

-- the root's memory.current leaves out the page in the stock
abbrev pub prepaid_left_out : Shown
prepaid_left_out = record shown_rightly { current = λ g. 1 }

-- no group is shown
abbrev pub no_group_seen : Shown
no_group_seen = record shown_rightly { groups = [] }

-- a group is shown that was never made; nothing is charged to it
abbrev pub group_too_many : Shown
group_too_many = record shown_rightly {
  groups = boot_groups small_zone ++ new_row 1 (codes "/a") ∷ [];
  current = λ g. if g == 1 then 0 else 2;
}

-- the root is shown with a limit that was never set
abbrev pub limit_never_set : Shown
limit_never_set = record shown_rightly { groups = record (boot_root small_zone) { limit = Some 5 } ∷ [] }

-- ---- what is shown of free frames alone
-- what is shown if both frames are free and nothing is charged
abbrev pub shown_free : Shown
shown_free = record {
  areas = record { at = 0; order = 1 } ∷ [];
  lists = λ cpu. [];
  keeper = λ f. None;
  groups = boot_groups small_zone;
  stocks = λ cpu. no_stock;
  current = λ g. 0;
}

-- what is shown after the run breaks the promise
abbrev pub IsWrongAfter : Run → Shown → Type 0
IsWrongAfter run shown = ¬ Promise small_zone run shown

-- the two frames are shown as two blocks
abbrev pub parted_areas : Shown
parted_areas = record shown_free { areas = record { at = 0; order = 0 } ∷ record { at = 1; order = 0 } ∷ [] }

-- a page is shown in the stock of a CPU that doesn't exist
abbrev pub prepaid_by_nobody : Shown
prepaid_by_nobody = record shown_free {
  stocks = λ cpu. if cpu == 3 then record { group = Some 0; pages = 1; is_drained = false }
      else no_stock;
}

-- a page is shown as prepaid for a group that doesn't exist
abbrev pub prepaid_for_no_group : Shown
prepaid_for_no_group = record shown_free {
  stocks = λ cpu. if cpu == 1 then record { group = Some 5; pages = 1; is_drained = false }
      else no_stock;
}

-- a page was granted and is neither in a stock nor kept: the memory.current shown for the root may not leave it out
abbrev pub granted_and_lost : Run
granted_and_lost = zone_makes (Grant 0 1) Granted ∷ []

-- nor may that memory.current count it, without a stock or a frame for it
abbrev pub lost_in_number : Shown
lost_in_number = record shown_free { current = λ g. 1 }
