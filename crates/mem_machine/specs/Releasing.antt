-- How a kept unit is released: it leaves its list, and is freed if nobody else has a reference.
use Rattle.std.specs.Prelude.{◌≡◌, ℕ, ◌^◌, ◌≤◌, [], ◌∷◌}
use Rattle.zone_blocks.specs.Areas.{AreMaximalBlocks}
use Rattle.group_charge.specs.Charges.{with_uncharge}
use Rattle.step_rules.specs.declared.phase.ChargedUnit.{ChargedUnit}
use Rattle.step_rules.specs.declared.step.Action.TheVariants.{Put, Return}
use Rattle.step_rules.specs.declared.step.Answer.TheVariants as answer
use Rattle.step_rules.specs.After.{Run, zone_makes}
use Rattle.mem_machine.specs.declared.frame_state.FrameState.TheVariants.{Head}
use Rattle.mem_machine.specs.declared.releasing.Released.{Released}
use Rattle.mem_machine.specs.declared.releasing.Released.TheVariants.{Left, Returned}
use Rattle.mem_machine.specs.FrameStates.{frame_state_at, free_of}
use Rattle.mem_machine.specs.Lists.{LeavesList}
use Rattle.mem_machine.specs.Machines.{KnownMachine, lists_of}
use Rattle.mem_machine.specs.Counts.{with_last_put}
use Rattle.mem_machine.specs.Freeing.{FreesFrames}

-- the unit left its list, and this many references of CPUs are left; nothing else changed, except the run
pub record LeavesReferences (frame left : ℕ) (before after : KnownMachine) : Type 0 where
  pub list : LeavesList frame (lists_of before) (lists_of after)
  pub some : 1 ≤ left
  pub machine : after ≡ record before {
    links = after.links;
    lists = after.lists;
    run = after.run;
  }

-- the unit left its list and was freed: its frames are free, and its pages left the charge of its group; nothing else
-- changed, except the run
pub record ReturnsUnit (frame : ℕ) (before after : KnownMachine) : Type 0 where
  pub unit : ChargedUnit
  pub heads : frame_state_at before.frame_states frame ≡ Head unit
  pub list : LeavesList frame (lists_of before) (lists_of after)
  pub frees : FreesFrames frame (2 ^ unit.order) before.frame_states after.frame_states
  pub areas : AreMaximalBlocks (free_of after.frame_states) after.blocks
  pub machine : after ≡ record before {
    blocks = after.blocks;
    frame_states = after.frame_states;
    ledger = with_uncharge before.ledger unit.group (2 ^ unit.order);
    links = after.links;
    lists = after.lists;
    counts = with_last_put before.counts;
    run = after.run;
  }

-- what a release leaves, by its result
abbrev pub Releases : ℕ → Released → KnownMachine → KnownMachine → Type 0
Releases frame (Left left) before after = LeavesReferences frame left before after
Releases frame Returned before after = ReturnsUnit frame before after

-- the steps of a release: the zone puts its reference and, if that was the last one, the unit is freed
abbrev pub release_steps : ℕ → Released → Run
release_steps frame (Left left) = zone_makes (Put frame) (answer.Left left) ∷ []
release_steps frame Returned = zone_makes (Put frame) answer.Last ∷ zone_makes (Return frame) answer.Done ∷ []
