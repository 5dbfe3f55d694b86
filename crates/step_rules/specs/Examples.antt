-- Small runs, to be read beside the table. One is the life of a frame, three end with a refused step, one returns a
-- killed group's fresh frame. Two reach bounds: of references, limits and kills, and of the order of a list. One notes
-- events. Two have a group, its limit and its kill, one a group that is killed as a whole. In one a stock doesn't pay.
use Rattle.std.specs.Prelude.{ℕ, ◌==◌, true, Some, [], ◌∷◌, ◌++◌, codes, replicate, if◌then◌else◌}
use Rattle.step_rules.specs.declared.step.NoteKey.TheVariants.{Low, High, Max, Oom}
use Rattle.step_rules.specs.declared.step.Action.TheVariants.{Lock, Unlock, OpenVisit, ShutVisit, Get, Put, Freeze, Unfreeze, PassOut, TakeIn}
use Rattle.step_rules.specs.declared.step.Action.TheVariants.{PassBack, Collect, Consume, Credit, Report, Absorb, Fill, DrainStock, Grant, Ungrant}
use Rattle.step_rules.specs.declared.step.Action.TheVariants.{PlaceBlock, Publish, Return, Note, NoteGroupKill, SetMax, SetFlag, Make, Remove, Kill}
use Rattle.step_rules.specs.declared.step.Answer.TheVariants.{Illegal, Done, Held, Zero, Full, Left, Last, Missed, Took, Empty, OtherGroup, Drained}
use Rattle.step_rules.specs.declared.step.Answer.TheVariants.{Stocked, Pages, Granted, Over, Placed, NoFreeBlock, Number}
use Rattle.step_rules.specs.State.{Zone, State, at_boot, no_part}
use Rattle.step_rules.specs.After.{Run, cpu_makes, zone_makes}

-- a zone of two frames and two CPUs, with room for 64 groups
abbrev pub small_zone : Zone
small_zone = record { frames = 2; cpus = 2; groups = 64 }

-- CPU 1 gets frame 0 on its list, and a stock of two pages of the root
abbrev pub first_visit : Run
first_visit =
    cpu_makes 1 Lock Done ∷ zone_makes (OpenVisit 1) Done ∷ zone_makes (PassOut 0 1) Done ∷ cpu_makes 1 (TakeIn 0) Done
    ∷ zone_makes (Grant 0 2) Granted ∷ zone_makes (Fill 1 0 2) Done ∷ []

-- CPU 1 pays for the frame, which becomes fresh, hands it over to the zone, which keeps it, and reports the page
abbrev pub hand_over : Run
hand_over =
    cpu_makes 1 (Consume 0) Took ∷ cpu_makes 1 (PassBack 0) Done ∷ zone_makes (Collect 0 1) Done ∷ zone_makes (Unfreeze 0 1) Done
    ∷ zone_makes (Publish 0) Done ∷ cpu_makes 1 (Report 1) Done ∷ zone_makes (Absorb 1) (Pages 1) ∷ zone_makes (ShutVisit 1) Done
    ∷ cpu_makes 1 Unlock Done ∷ []

-- CPU 2 pins the frame, the zone gives up its reference, and CPU 2 makes the last put
abbrev pub last_put : Run
last_put =
    cpu_makes 2 (Get 0) Held ∷ cpu_makes 1 Lock Done ∷ zone_makes (Put 0) (Left 1) ∷ cpu_makes 2 (Put 0) Last ∷ cpu_makes 1 Unlock Done ∷ []

-- CPU 2 hands the back frame over, it is returned, and the stock is drained
abbrev pub second_visit : Run
second_visit =
    cpu_makes 2 Lock Done ∷ zone_makes (OpenVisit 2) Done ∷ cpu_makes 2 (PassBack 0) Done ∷ zone_makes (Collect 0 2) Done
    ∷ zone_makes (Return 0) Done ∷ zone_makes (ShutVisit 2) Done ∷ zone_makes (DrainStock 1) (Pages 1) ∷ zone_makes (Ungrant 0 1) Done
    ∷ cpu_makes 2 Unlock Done ∷ []

-- the life of a frame
abbrev pub life_of_a_frame : Run
life_of_a_frame = first_visit ++ hand_over ++ last_put ++ second_visit

-- a frame is credited twice
abbrev pub credited_twice : Run
credited_twice = first_visit ++ cpu_makes 1 (Consume 0) Took ∷ cpu_makes 1 (Credit 0) Stocked ∷ cpu_makes 1 (Credit 0) Illegal ∷ []

-- a frame is placed, frozen, returned and placed again
abbrev pub placed_again : Run
placed_again =
    cpu_makes 1 Lock Done ∷ zone_makes (Grant 0 2) Granted ∷ zone_makes (PlaceBlock 0 0) (Placed (record { at = 0; order = 0 }))
    ∷ zone_makes (Unfreeze 0 1) Done ∷ zone_makes (Freeze 0 1) Done ∷ zone_makes (Return 0) Done
    ∷ zone_makes (PlaceBlock 0 0) (Placed (record { at = 0; order = 0 })) ∷ []

-- the unit is returned a second time for one end
abbrev pub returned_twice : Run
returned_twice = placed_again ++ zone_makes (Return 0) Illegal ∷ []

-- the lock is to be released while two pages are pending
abbrev pub unlocked_too_soon : Run
unlocked_too_soon = cpu_makes 1 Lock Done ∷ zone_makes (Grant 0 2) Granted ∷ cpu_makes 1 Unlock Illegal ∷ []

-- a fresh frame that the zone collected is returned only after its group, here the root, is killed
abbrev pub returned_when_killed : Run
returned_when_killed =
    first_visit ++ cpu_makes 1 (Consume 0) Took ∷ cpu_makes 1 (PassBack 0) Done ∷ zone_makes (Collect 0 1) Done
    ∷ zone_makes (Return 0) Illegal ∷ zone_makes (Kill 0) Done ∷ zone_makes (Return 0) Done ∷ []

-- A frame gets at most 255 references, and none is given on one that has none. A freeze takes all references or none.
-- The root gets no limit, a killed group gets no page, and a group is killed once.
abbrev pub at_the_borders : Run
at_the_borders =
    cpu_makes 1 Lock Done ∷ zone_makes (SetMax 0 (Some 5)) Illegal ∷ zone_makes (Grant 0 1) Granted
    ∷ zone_makes (PlaceBlock 0 0) (Placed (record { at = 0; order = 0 })) ∷ zone_makes (Unfreeze 0 256) Illegal
    ∷ zone_makes (Unfreeze 0 255) Done ∷ cpu_makes 1 (Get 0) Full ∷ zone_makes (Put 0) (Left 254) ∷ cpu_makes 1 (Get 0) Held
    ∷ cpu_makes 1 (Get 1) Zero ∷ zone_makes (Freeze 0 254) Missed ∷ zone_makes (Kill 0) Done ∷ zone_makes (Grant 0 1) Illegal
    ∷ zone_makes (Kill 0) Illegal ∷ []

-- A CPU with two frames on its list passes the first back, and not the second. A frame that only a CPU refers to isn't
-- published.
abbrev pub in_line : Run
in_line =
    cpu_makes 1 Lock Done ∷ zone_makes (OpenVisit 1) Done ∷ zone_makes (PassOut 0 1) Done ∷ cpu_makes 1 (TakeIn 0) Done
    ∷ zone_makes (PassOut 1 1) Done ∷ cpu_makes 1 (TakeIn 1) Done ∷ cpu_makes 1 (PassBack 1) Illegal ∷ cpu_makes 1 (PassBack 0) Done
    ∷ zone_makes (Collect 0 1) Done ∷ zone_makes (Grant 0 1) Granted
    ∷ zone_makes (PlaceBlock 0 0) (Placed (record { at = 0; order = 0 })) ∷ zone_makes (Unfreeze 0 1) Done ∷ cpu_makes 2 (Get 0) Held
    ∷ zone_makes (Publish 0) Done ∷ zone_makes (Put 0) (Left 1) ∷ zone_makes (Publish 0) Illegal ∷ []

-- five kinds of events are noted at the root, `oom` twice and each other once
abbrev pub noted_events : Run
noted_events =
    cpu_makes 1 Lock Done ∷ zone_makes (Note Low 0) Done ∷ zone_makes (Note High 0) Done ∷ zone_makes (Note Max 0) Done
    ∷ zone_makes (Note Oom 0) Done ∷ zone_makes (Note Oom 0) Done ∷ zone_makes (Kill 0) Done ∷ []

-- Two groups are one below the other, and the upper one gets a limit of one page. A grant of two pages to the
-- lower one is over it, a grant of one isn't. Then the limit may be set below the usage. A frame is kept for that page,
-- and has references.
abbrev pub group_in_use : Run
group_in_use =
    cpu_makes 1 Lock Done ∷ zone_makes (Make (codes "/a")) (Number 1) ∷ zone_makes (Make (codes "/a/b")) (Number 2)
    ∷ zone_makes (SetMax 1 (Some 1)) Done ∷ zone_makes (Grant 2 2) (Over 1) ∷ zone_makes (Grant 2 1) Granted
    ∷ zone_makes (SetMax 1 (Some 0)) Done ∷ zone_makes (PlaceBlock 2 0) (Placed (record { at = 0; order = 0 }))
    ∷ zone_makes (Unfreeze 0 1) Done ∷ cpu_makes 1 (Get 0) Held ∷ cpu_makes 1 (Get 0) Held ∷ cpu_makes 1 (Put 0) (Left 2)
    ∷ cpu_makes 1 (Put 0) (Left 1) ∷ []

-- A group isn't removed while it has a child or usage. The lower one is killed, its frame is returned all the same, and
-- the group is removed. A new one gets its number, not killed, and is below the same limit.
abbrev pub group_goes : Run
group_goes =
    zone_makes (Remove 1) Illegal ∷ zone_makes (Remove 2) Illegal ∷ zone_makes (Note Oom 2) Done
    ∷ zone_makes (Kill 2) Done ∷ zone_makes (Freeze 0 1) Done ∷ zone_makes (Return 0) Done ∷ zone_makes (Remove 2) Done
    ∷ zone_makes (Make (codes "/a/b")) (Number 2) ∷ zone_makes (Note Max 2) Done ∷ zone_makes (Grant 2 1) (Over 1)
    ∷ cpu_makes 1 Unlock Done ∷ []

-- the two, one after the other
abbrev pub group_comes_and_goes : Run
group_comes_and_goes = group_in_use ++ group_goes

-- Two pages are granted to a group, and it is killed. It gets no more pages, but of these one is placed and one
-- ungranted. Events are noted at it, its limit is set, its frame is published and returned. A group is made below it
-- and removed, and then it is removed itself.
abbrev pub killed_group_ends : Run
killed_group_ends =
    cpu_makes 1 Lock Done ∷ zone_makes (Make (codes "/a")) (Number 1) ∷ zone_makes (Grant 1 2) Granted ∷ zone_makes (Kill 1) Done
    ∷ zone_makes (Grant 1 1) Illegal ∷ zone_makes (Note Max 1) Done ∷ zone_makes (Note Oom 1) Done ∷ zone_makes (SetMax 1 (Some 0)) Done
    ∷ zone_makes (PlaceBlock 1 0) (Placed (record { at = 0; order = 0 })) ∷ zone_makes (Ungrant 1 1) Done
    ∷ zone_makes (Unfreeze 0 1) Done ∷ zone_makes (Publish 0) Done ∷ zone_makes (Freeze 0 1) Done ∷ zone_makes (Return 0) Done
    ∷ zone_makes (Make (codes "/a/b")) (Number 2) ∷ zone_makes (Remove 2) Done ∷ zone_makes (Remove 1) Done ∷ cpu_makes 1 Unlock Done
    ∷ []

-- Two groups are one below the other, and the flag of the upper one is set. The flag of the root can't be set,
-- nor that of a group that doesn't exist.
abbrev pub group_with_flag : Run
group_with_flag =
    cpu_makes 1 Lock Done ∷ zone_makes (Make (codes "/a")) (Number 1) ∷ zone_makes (Make (codes "/a/b")) (Number 2)
    ∷ zone_makes (SetFlag 0 true) Illegal ∷ zone_makes (SetFlag 3 true) Illegal ∷ zone_makes (SetFlag 1 true) Done ∷ []

-- Both groups are killed, and that is noted once, at the upper one. It can't be noted at the root or at a group that
-- doesn't exist.
abbrev pub group_killed_whole : Run
group_killed_whole =
    group_with_flag ++ zone_makes (Kill 1) Done ∷ zone_makes (Kill 2) Done ∷ zone_makes (NoteGroupKill 0) Illegal
    ∷ zone_makes (NoteGroupKill 3) Illegal ∷ zone_makes (NoteGroupKill 1) Done ∷ []

-- both groups are removed, and a new group gets the number of the upper one
abbrev pub group_dies_whole : Run
group_dies_whole =
    group_killed_whole ++ zone_makes (Remove 2) Done ∷ zone_makes (Remove 1) Done ∷ zone_makes (Make (codes "/a")) (Number 1)
    ∷ cpu_makes 1 Unlock Done ∷ []

-- A CPU's stock has one page, and its list has both frames, so that none is free. The stock pays only for its group,
-- and for one frame. Once it is drained it pays for none, and no page is credited to it.
abbrev pub stock_without_a_page : Run
stock_without_a_page =
    cpu_makes 1 Lock Done ∷ zone_makes (OpenVisit 1) Done ∷ zone_makes (PassOut 0 1) Done ∷ cpu_makes 1 (TakeIn 0) Done
    ∷ zone_makes (PassOut 1 1) Done ∷ cpu_makes 1 (TakeIn 1) Done ∷ zone_makes (Grant 0 1) Granted
    ∷ zone_makes (PlaceBlock 0 0) NoFreeBlock ∷ zone_makes (Fill 1 0 1) Done ∷ cpu_makes 1 (Consume 5) OtherGroup
    ∷ cpu_makes 1 (Consume 0) Took ∷ cpu_makes 1 (Consume 0) Empty ∷ zone_makes (DrainStock 1) (Pages 0) ∷ cpu_makes 1 (Consume 0) Drained
    ∷ cpu_makes 1 (Credit 0) Drained ∷ []

-- CPU 1 takes the lock
abbrev pub lock_taken : Run
lock_taken = cpu_makes 1 Lock Done ∷ []

-- CPU 1's visit is opened and shut; meanwhile it and CPU 2 ask in vain for a frame that has no reference
abbrev pub vain_visit : Run
vain_visit = zone_makes (OpenVisit 1) Done ∷ cpu_makes 2 (Get 0) Zero ∷ cpu_makes 1 (Get 0) Zero ∷ zone_makes (ShutVisit 1) Done ∷ []

-- ---- states at the bounds, which are tests of the table and not of a run
-- each seat has this many references on frame 0
abbrev pub with_pins : ℕ → State
with_pins n = record (at_boot small_zone) { references = λ seat f. if f == 0 then n else 0 }

-- each CPU has this many back frames
abbrev pub with_back_frames : ℕ → State
with_back_frames n = record (at_boot small_zone) { parts = λ cpu. record no_part { back = replicate n 0 } }

-- each CPU has this many fresh frames, and one frame on its list
abbrev pub with_fresh_frames : ℕ → State
with_fresh_frames n = record (at_boot small_zone) {
  parts = λ cpu.
      record no_part { list = 1 ∷ []; fresh = replicate n 0 };
}
