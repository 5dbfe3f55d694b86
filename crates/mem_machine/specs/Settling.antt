-- How the fresh and back frames of the visited CPU are settled, one after the other.
use Rattle.std.specs.Prelude.{◌≡◌, ℕ, ◌^◌, Bool, true, false, Option, Some, None, IfSome, List, [], ◌∷◌, ◌++◌, slice_set, if◌then◌else◌}
use Rattle.std.specs.List.{flat_map}
use Rattle.zone_blocks.specs.Areas.{AreMaximalBlocks}
use Rattle.group_charge.specs.Charges.{with_uncharge}
use Rattle.step_rules.specs.declared.phase.ChargedUnit.{ChargedUnit}
use Rattle.step_rules.specs.declared.step.Action.TheVariants.{Return}
use Rattle.step_rules.specs.declared.step.Answer.TheVariants.{Done}
use Rattle.step_rules.specs.After.{Run, zone_makes}
use Rattle.boot_words.specs.Composed.{take_back_run}
use Rattle.boot_words.specs.Tables.{KnownTable}
use Rattle.cpu_part.specs.Cpus.{KnownCpuLists}
use Rattle.mem_machine.specs.declared.frame_state.FrameState.TheVariants.{Head}
use Rattle.mem_machine.specs.FrameStates.{frame_state_at, free_of}
use Rattle.mem_machine.specs.Machines.{OneByOne, VisitState, VisitStateStays, is_killed}
use Rattle.mem_machine.specs.Local.{VisitMakes, group_of_fresh}
use Rattle.mem_machine.specs.Steps.{publish_steps, unlist_steps}
use Rattle.mem_machine.specs.Lists.{ListsUnit}
use Rattle.mem_machine.specs.Counts.{with_killed_fresh, with_last_put}
use Rattle.mem_machine.specs.Freeing.{FreesFrames}

-- the CPU passes its oldest fresh frame back
pub record HandsOver (frame : ℕ) (before after : KnownCpuLists) : Type 0 where
  pub front : before.fresh ≡ frame ∷ after.fresh
  pub cpu : after ≡ record before { fresh = after.fresh }

-- The oldest fresh frame becomes a kept unit of one frame, of this group. It is in use, has one reference of the zone,
-- and is on the group's inactive list. Its page stays charged, now for the frame: by the steps it is no longer booked
-- to the stock.
pub record KeepsFresh (group frame : ℕ) (before after : VisitState) : Type 0 where
  pub listed : ListsUnit group frame before.machine after.machine
  pub machine : after.machine ≡ record before.machine {
    frame_states = slice_set before.machine.frame_states frame (Head (record { group = group; order = 0 }));
    links = after.machine.links;
    lists = after.machine.lists;
    run = after.machine.run;
  }
  pub cpu : HandsOver frame before.cpu after.cpu

-- a drop: the oldest fresh frame is free again, and its page is no longer charged to the group, nor by the steps booked
-- to the stock
pub record DropsFresh (group frame : ℕ) (before after : VisitState) : Type 0 where
  pub frees : FreesFrames frame 1 before.machine.frame_states after.machine.frame_states
  pub areas : AreMaximalBlocks (free_of after.machine.frame_states) after.machine.blocks
  pub machine : after.machine ≡ record before.machine {
    blocks = after.machine.blocks;
    frame_states = after.machine.frame_states;
    ledger = with_uncharge before.machine.ledger group 1;
    counts = with_killed_fresh before.machine.counts;
    run = after.machine.run;
  }
  pub cpu : HandsOver frame before.cpu after.cpu

-- the unit that the oldest back frame heads is freed, and its pages leave the charge of its group
pub record ReturnsBack (frame : ℕ) (before after : VisitState) : Type 0 where
  pub unit : ChargedUnit
  pub heads : frame_state_at before.machine.frame_states frame ≡ Head unit
  pub frees : FreesFrames frame (2 ^ unit.order) before.machine.frame_states after.machine.frame_states
  pub areas : AreMaximalBlocks (free_of after.machine.frame_states) after.machine.blocks
  pub machine : after.machine ≡ record before.machine {
    blocks = after.machine.blocks;
    frame_states = after.machine.frame_states;
    ledger = with_uncharge before.machine.ledger unit.group (2 ^ unit.order);
    counts = with_last_put before.machine.counts;
    run = after.machine.run;
  }
  pub front : before.cpu.back ≡ frame ∷ after.cpu.back
  pub cpu : after.cpu ≡ record before.cpu { back = after.cpu.back }

-- the group of the CPU's fresh frames is killed
abbrev pub is_fresh_killed : KnownTable → VisitState → Bool
is_fresh_killed table now = is_killed now.machine.killed (group_of_fresh table now)

-- the oldest fresh frame is kept for its group, or dropped if that group is killed
pub record SettlesFresh (table : KnownTable) (frame : ℕ) (before after : VisitState) : Type 0 where
  pub keeps : is_fresh_killed table before ≡ false → KeepsFresh (group_of_fresh table before) frame before after
  pub drops : is_fresh_killed table before ≡ true → DropsFresh (group_of_fresh table before) frame before after

-- no frame of the CPU is fresh, and nothing changed
pub record FindsNoneFresh (before after : VisitState) : Type 0 where
  pub none_fresh : before.cpu.fresh ≡ []
  pub stays : VisitStateStays before after

-- the CPU has no back frame, and nothing changed
pub record FindsNoneBack (before after : VisitState) : Type 0 where
  pub none_back : before.cpu.back ≡ []
  pub stays : VisitStateStays before after

-- what settling the oldest fresh frame leaves, by its result: that frame, or None if there is no fresh frame
abbrev pub SettlesNext : KnownTable → Option ℕ → VisitState → VisitState → Type 0
SettlesNext table None before after = FindsNoneFresh before after
SettlesNext table (Some frame) before after = SettlesFresh table frame before after

-- what freeing the unit of the oldest back frame leaves, by its result: that frame, or None if there is no back frame
abbrev pub ReturnsNext : Option ℕ → VisitState → VisitState → Type 0
ReturnsNext None before after = FindsNoneBack before after
ReturnsNext (Some frame) before after = ReturnsBack frame before after

-- these fresh frames are settled, one after the other
abbrev pub SettlesAllFresh : KnownTable → List ℕ → VisitState → VisitState → Type 0
SettlesAllFresh table frames before after = OneByOne (SettlesFresh table) frames before after

-- the units of these back frames are freed, one after the other
abbrev pub ReturnsAllBack : List ℕ → VisitState → VisitState → Type 0
ReturnsAllBack frames before after = OneByOne ReturnsBack frames before after

-- the CPU keeps its number, its list and its pins
pub record LeavesOthers (before after : KnownCpuLists) : Type 0 where
  pub number : after.number ≡ before.number
  pub list : after.list ≡ before.list
  pub pins : after.pins ≡ before.pins

-- the CPU has nothing to settle: none of its frames is fresh or back
abbrev pub IsSettled : KnownCpuLists → Type 0
IsSettled cpu = (cpu.fresh ≡ []) × (cpu.back ≡ [])

-- all fresh frames are settled, in the order in which they were taken; then the units of all back frames are freed, in
-- the order of their last puts
pub record Settles (table : KnownTable) (before after : VisitState) : Type 0 where
  pub mid : VisitState
  pub fresh : SettlesAllFresh table before.cpu.fresh before mid
  pub back : ReturnsAllBack before.cpu.back mid after

-- ---- the steps

-- the steps by which the zone takes over a fresh frame, after which its page is no longer booked to the stock
abbrev pub collect_steps : ℕ → ℕ → Run
collect_steps cpu frame = take_back_run cpu frame

-- the steps of a fresh frame that is kept
abbrev pub keep_steps : ℕ → ℕ → Run
keep_steps cpu frame = collect_steps cpu frame ++ publish_steps frame

-- the steps of a fresh frame that is dropped
abbrev pub drop_steps : ℕ → ℕ → Run
drop_steps cpu frame = collect_steps cpu frame ++ zone_makes (Return frame) Done ∷ []

-- the steps of a back frame, whose unit is freed
abbrev pub return_steps : ℕ → ℕ → Run
return_steps cpu frame = unlist_steps cpu frame ++ zone_makes (Return frame) Done ∷ []

-- the steps of a fresh frame: dropped if its group is killed, else kept
abbrev pub fresh_steps : Bool → ℕ → ℕ → Run
fresh_steps is_killed cpu frame =
    if is_killed then drop_steps cpu frame else keep_steps cpu frame

-- the steps of all fresh frames, in the order in which they were taken
abbrev pub all_fresh_steps : KnownTable → VisitState → Run
all_fresh_steps table now = flat_map (fresh_steps (is_fresh_killed table now) now.cpu.number) now.cpu.fresh

-- the steps of all back frames, in the order of their last puts
abbrev pub return_all_steps : VisitState → Run
return_all_steps now = flat_map (return_steps now.cpu.number) now.cpu.back

-- the steps of a settle
abbrev pub settle_steps : KnownTable → VisitState → Run
settle_steps table now = all_fresh_steps table now ++ return_all_steps now

-- if a fresh frame was settled, its steps lead from the visit state before to the visit state after
abbrev pub MakesFreshSteps : KnownTable → Option ℕ → VisitState → VisitState → Type 0
MakesFreshSteps table next before after =
    IfSome next
    (λ frame. VisitMakes table before (fresh_steps (is_fresh_killed table before) before.cpu.number frame) after)

-- if the unit of a back frame was freed, its steps lead from the visit state before to the visit state after
abbrev pub MakesReturnSteps : KnownTable → Option ℕ → VisitState → VisitState → Type 0
MakesReturnSteps table next before after =
    IfSome next (λ frame. VisitMakes table before (return_steps before.cpu.number frame) after)
