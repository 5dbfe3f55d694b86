-- How frames move between the free areas and a CPU's list.
use Rattle.std.specs.Prelude.{◌≡◌, ℕ, ◌+◌, ◌≤◌, Bool, true, false, List, [], ◌∷◌, ◌++◌, length, take, slice_set}
use Rattle.zone_blocks.specs.Areas.{AreMaximalBlocks, HasNoneFrom, IsFrontOfSmallest}
use Rattle.boot_words.specs.Tables.{KnownTable}
use Rattle.cpu_part.specs.Cpus.{KnownCpuLists, most_listed}
use Rattle.step_rules.specs.After.{Run}
use Rattle.mem_machine.specs.declared.frame_state.FrameState.TheVariants.{Free, Lent}
use Rattle.mem_machine.specs.FrameStates.{free_of}
use Rattle.mem_machine.specs.Machines.{OneByOne, VisitStateStays}
use Rattle.mem_machine.specs.Local.{VisitState, VisitMakes}
use Rattle.mem_machine.specs.Steps.{lend_steps, unlist_steps, refill_steps, drain_list_steps}

-- the frame was free and is now at the end of the CPU's list; nothing else changed, except the run
pub record LendsFrame (frame : ℕ) (before after : VisitState) : Type 0 where
  pub areas : AreMaximalBlocks (free_of after.machine.frame_states) after.machine.blocks
  pub machine : after.machine ≡ record before.machine {
    blocks = after.machine.blocks;
    frame_states = slice_set before.machine.frame_states frame (Lent before.cpu.number);
    run = after.machine.run;
  }
  pub cpu : after.cpu ≡ record before.cpu { list = before.cpu.list ++ frame ∷ [] }

-- of the free blocks of the least order, the one with the least address gave its first frame, which is now at the end
-- of the CPU's list
pub record LendsOne (frame : ℕ) (before after : VisitState) : Type 0 where
  pub front : IsFrontOfSmallest before.machine.blocks 0 (record { at = frame; order = 0 })
  pub lends : LendsFrame frame before after

-- there is no free frame, and nothing changed
pub record LendsNone (before after : VisitState) : Type 0 where
  pub none : HasNoneFrom before.machine.blocks 0
  pub stays : VisitStateStays before after

-- the CPU's list has room for this many more frames: with them, listed and fresh frames are at most `most_listed`
abbrev pub HasListRoom : KnownCpuLists → ℕ → Type 0
HasListRoom cpu count = length cpu.list + length cpu.fresh + count ≤ most_listed

-- these frames are lent, one after the other
abbrev pub LendsMany : List ℕ → VisitState → VisitState → Type 0
LendsMany frames before after = OneByOne LendsOne frames before after

-- one frame is lent, by its steps
pub record LendsByStep (table : KnownTable) (before after : VisitState) : Type 0 where
  pub frame : ℕ
  pub lends : LendsOne frame before after
  pub steps : VisitMakes table before (lend_steps before.cpu.number frame) after

-- what lending one frame leaves, by its result: true if a frame is lent, false if none is free
abbrev pub LendsIfFree : KnownTable → Bool → VisitState → VisitState → Type 0
LendsIfFree table true before after = LendsByStep table before after
LendsIfFree table false before after = LendsNone before after

-- this many frames are lent, one after the other, by their steps
pub record Refills (table : KnownTable) (count : ℕ) (before after : VisitState) : Type 0 where
  pub frames : List ℕ
  pub all : count ≡ length frames
  pub lends : LendsMany frames before after
  pub steps : VisitMakes table before (refill_steps before.cpu.number frames) after

-- the frame was at the front of the CPU's list and is free again
pub record UnlistsOne (frame : ℕ) (before after : VisitState) : Type 0 where
  pub rest : List ℕ
  pub front : before.cpu.list ≡ frame ∷ rest
  pub areas : AreMaximalBlocks (free_of after.machine.frame_states) after.machine.blocks
  pub machine : after.machine ≡ record before.machine {
    blocks = after.machine.blocks;
    frame_states = slice_set before.machine.frame_states frame Free;
    run = after.machine.run;
  }
  pub cpu : after.cpu ≡ record before.cpu { list = rest }

-- the list is empty, and nothing changed
pub record UnlistsNone (before after : VisitState) : Type 0 where
  pub none : before.cpu.list ≡ []
  pub stays : VisitStateStays before after

-- these frames are returned to the zone, one after the other
abbrev pub UnlistsMany : List ℕ → VisitState → VisitState → Type 0
UnlistsMany frames before after = OneByOne UnlistsOne frames before after

-- one frame is returned to the zone, by its steps
pub record UnlistsByStep (table : KnownTable) (before after : VisitState) : Type 0 where
  pub frame : ℕ
  pub takes : UnlistsOne frame before after
  pub steps : VisitMakes table before (unlist_steps before.cpu.number frame) after

-- what returning one frame to the zone leaves, by its result: true if the front of the list is free again, false if the
-- list is empty
abbrev pub UnlistsIfListed : KnownTable → Bool → VisitState → VisitState → Type 0
UnlistsIfListed table true before after = UnlistsByStep table before after
UnlistsIfListed table false before after = UnlistsNone before after

-- the steps that return this many frames from the front of the CPU's list to the zone
abbrev pub unlist_front_steps : ℕ → VisitState → Run
unlist_front_steps count now = drain_list_steps now.cpu.number (take count now.cpu.list)
