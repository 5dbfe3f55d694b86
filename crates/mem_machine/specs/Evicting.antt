-- How reclaim tries a kept unit: the unit is frozen and freed if only the zone has a reference, else it is missed.
use Rattle.std.specs.Prelude.{◌≡◌, ℕ, ◌^◌, Option, Some, None, [], ◌∷◌}
use Rattle.zone_blocks.specs.Areas.{AreMaximalBlocks}
use Rattle.group_charge.specs.{unit_noted, UsageRises, with_uncharge}
use Rattle.step_rules.specs.declared.phase.ChargedUnit.{ChargedUnit}
use Rattle.step_rules.specs.declared.step.Action.TheVariants.{Freeze, Return}
use Rattle.step_rules.specs.declared.step.Answer.TheVariants.{Done, Missed}
use Rattle.step_rules.specs.After.{Run, zone_makes}
use Rattle.mem_machine.specs.declared.frame_state.FrameState.TheVariants.{Head}
use Rattle.mem_machine.specs.FrameStates.{frame_state_at, free_of}
use Rattle.mem_machine.specs.Machines.{KnownMachine, lists_of}
use Rattle.mem_machine.specs.Counts.{with_freeze, with_miss}
use Rattle.mem_machine.specs.Freeing.{FreesFrames}
use Rattle.mem_machine.specs.Lists.{LeavesList}

-- someone else has a reference on the unit: one more miss is counted, and nothing else changed, except the run
abbrev pub MissesUnit : KnownMachine → KnownMachine → Type 0
MissesUnit before after = after ≡ record before { counts = with_miss before.counts; run = after.run }

-- The unit was frozen and freed. It left its list, its frames are free, and its pages, this many, left the charge of
-- its group. The unit is noted, if freed units are. Nothing else changed, except the run.
pub record EvictsUnit (frame pages : ℕ) (before after : KnownMachine) : Type 0 where
  pub unit : ChargedUnit
  pub heads : frame_state_at before.frame_states frame ≡ Head unit
  pub size : pages ≡ 2 ^ unit.order
  pub list : LeavesList frame (lists_of before) (lists_of after)
  pub own : unit.group ≡ list.group
  pub usage : UsageRises after.ledger before.ledger unit.group pages
  pub frees : FreesFrames frame (2 ^ unit.order) before.frame_states after.frame_states
  pub areas : AreMaximalBlocks (free_of after.frame_states) after.blocks
  pub machine : after ≡ record before {
    blocks = after.blocks;
    frame_states = after.frame_states;
    ledger = with_uncharge before.ledger unit.group (2 ^ unit.order);
    links = after.links;
    lists = after.lists;
    counts = with_freeze before.counts;
    notes = unit_noted before.notes unit.group frame (2 ^ unit.order);
    run = after.run;
  }

-- what a try leaves, by its result: the number of pages freed, or None for a miss
abbrev pub Evicts : ℕ → Option ℕ → KnownMachine → KnownMachine → Type 0
Evicts frame None before after = MissesUnit before after
Evicts frame (Some pages) before after = EvictsUnit frame pages before after

-- the steps of a try: the zone freezes the frame and, if that succeeds, the unit is freed
abbrev pub evict_steps : ℕ → Option ℕ → Run
evict_steps frame None = zone_makes (Freeze frame 1) Missed ∷ []
evict_steps frame (Some pages) = zone_makes (Freeze frame 1) Done ∷ zone_makes (Return frame) Done ∷ []
