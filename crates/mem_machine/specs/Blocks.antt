-- How blocks are taken and charged to a group.
use Rattle.std.specs.Prelude.{◌≡◌, ℕ, ◌^◌, ◌==◌, Result, Ok, Err, List, [], ◌∷◌, length, if◌then◌else◌}
use Rattle.zone_blocks.specs.declared.block.Block.{Block}
use Rattle.zone_blocks.specs.Areas.{AreMaximalBlocks, HasNoneFrom, IsFrontOfSmallest}
use Rattle.group_tree.specs.Room.{PathHasRoom}
use Rattle.group_charge.specs.Charges.{current_of, with_charge, with_uncharge}
use Rattle.step_rules.specs.declared.step.Action.TheVariants.{Grant, Ungrant, PlaceBlock}
use Rattle.step_rules.specs.declared.step.Answer.TheVariants.{Done, Granted, Placed, NoFreeBlock}
use Rattle.step_rules.specs.After.{Run, is_within, zone_makes}
use Rattle.mem_machine.specs.declared.frame_state.FrameState.{FrameState}
use Rattle.mem_machine.specs.declared.frame_state.FrameState.TheVariants.{Head, Tail}
use Rattle.mem_machine.specs.declared.blocks.TakeFault.{TakeFault}
use Rattle.mem_machine.specs.declared.blocks.TakeFault.TheVariants as fault
use Rattle.mem_machine.specs.FrameStates.{frame_state_at, free_of}
use Rattle.mem_machine.specs.Lists.{ListsUnit}
use Rattle.mem_machine.specs.Machines.{KnownMachine, LacksRoom}
use Rattle.mem_machine.specs.Steps.{over_steps, publish_steps}

-- the record of a frame after the block became a unit of the group: the block's first frame is the head, its other
-- frames are tails
abbrev pub placed_frame_state : List FrameState → ℕ → Block → ℕ → FrameState
placed_frame_state frame_states group block frame =
    if is_within block.at (2 ^ block.order) frame
    then (if frame == block.at then Head (record { group = group; order = block.order }) else Tail group)
    else frame_state_at frame_states frame

-- the block is a unit of the group, and all other frames keep their records
pub record PlacesUnit (group : ℕ) (block : Block) (before after : List FrameState) : Type 0 where
  pub frames : length after ≡ length before
  pub records : (frame : ℕ) → frame_state_at after frame ≡ placed_frame_state before group block frame

-- The group is charged for a block of this order and gets it. It is the front of the free block of the least sufficient
-- order with the least address. The head is in use, has one reference of the zone, and is on the group's inactive list.
pub record TakesBlock (group order at : ℕ) (before after : KnownMachine) : Type 0 where
  pub room : PathHasRoom before.ledger.groups (current_of before.ledger) group (2 ^ order)
  pub front : IsFrontOfSmallest before.blocks order (record { at = at; order = order })
  pub areas : AreMaximalBlocks (free_of after.frame_states) after.blocks
  pub unit : PlacesUnit group (record { at = at; order = order }) before.frame_states after.frame_states
  pub listed : ListsUnit group at before after
  pub machine : after ≡ record before {
    blocks = after.blocks;
    frame_states = after.frame_states;
    ledger = with_charge before.ledger group (2 ^ order);
    links = after.links;
    lists = after.lists;
    run = after.run;
  }

-- there is no free block of the order or above: the pages were charged and uncharged, so only the peaks may be higher
pub record TakesNoBlock (group order : ℕ) (before after : KnownMachine) : Type 0 where
  pub room : PathHasRoom before.ledger.groups (current_of before.ledger) group (2 ^ order)
  pub none : HasNoneFrom before.blocks order
  pub machine : after ≡ record before {
    ledger = with_uncharge (with_charge before.ledger group (2 ^ order)) group (2 ^ order);
    run = after.run;
  }

-- What a refusal leaves. If a limit has no room for the block, the error names the lowest such group, and nothing
-- changed except the run. Else there is no free block of the order or above, and only the peaks may be
-- higher.
abbrev pub RefusesBlock : ℕ → ℕ → TakeFault → KnownMachine → KnownMachine → Type 0
RefusesBlock group order (fault.Over over) before after =
    LacksRoom before group (2 ^ order) over.group × (after ≡ record before { run = after.run })
RefusesBlock group order fault.NoBlock before after = TakesNoBlock group order before after

-- the steps of a block of this order, charged to the group, that begins at frame `at`
abbrev pub taken_steps : ℕ → ℕ → ℕ → Run
taken_steps group order at =
    zone_makes (Grant group (2 ^ order)) Granted
    ∷ zone_makes (PlaceBlock group order) (Placed (record { at = at; order = order }))
    ∷ publish_steps at

-- the steps if there is no free block of the order or above
abbrev pub unplaced_steps : ℕ → ℕ → Run
unplaced_steps group order =
    zone_makes (Grant group (2 ^ order)) Granted
    ∷ zone_makes (PlaceBlock group order) NoFreeBlock
    ∷ zone_makes (Ungrant group (2 ^ order)) Done
    ∷ []

-- the steps of a call that takes a block, by its result
abbrev pub block_steps : ℕ → ℕ → Result ℕ TakeFault → Run
block_steps group order (Ok at) = taken_steps group order at
block_steps group order (Err (fault.Over over)) = over_steps group (2 ^ order) over.group
block_steps group order (Err fault.NoBlock) = unplaced_steps group order
