-- How single frames are allocated, from the CPU's list.
use Rattle.std.specs.Prelude.{◌≡◌, ◌⊎◌, ℕ, ◌<◌, ◌≤◌, Bool, true, false, Result, Ok, Err, List, [], ◌++◌, length}
use Rattle.zone_blocks.specs.Areas.{HasNoneFrom}
use Rattle.zone_blocks.specs.declared.config.Config.{Config}
use Rattle.step_rules.specs.After.{Run}
use Rattle.mem_machine.specs.{is_killed, VisitState, LendsMany, PaysForFront, refill_steps, take_front_steps, Finds, InTurn, Stays, Transition}
use Rattle.mem_machine.specs.{transition}
use Rattle.mem_reclaim.specs.Rounds.{max_rounds}
use Rattle.mem_alloc.specs.declared.faults.AllocFault.{AllocFault}
use Rattle.mem_alloc.specs.declared.faults.AllocFault.TheVariants.{Over, NoFrames, RequesterKilled}
use Rattle.mem_alloc.specs.Charging.{DrainsStock, PaysForFrame}
use Rattle.mem_alloc.specs.Rounds.{AfterZoneNote, FailsInRounds, SucceedsInRounds}

-- no frame of the zone is free
abbrev pub HasNoFreeFrame : VisitState → Type 0
HasNoFreeFrame now = HasNoneFrom now.machine.blocks 0

-- a batch of free frames is added to the end of the list, or all free frames if they are fewer; at least one
pub record LendsBatch (batch : ℕ) (call : Transition VisitState) : Type 0 where
  pub frames : List ℕ
  pub some : 1 ≤ length frames
  pub at_most : length frames ≤ batch
  pub fewer : length frames < batch → HasNoFreeFrame call.after
  pub lends : LendsMany frames call.before call.after
  pub steps_are : call.steps ≡ refill_steps call.before.cpu.number frames

-- no frame is free, and nothing changed
abbrev pub LendsNoFrame : Transition VisitState → Type 0
LendsNoFrame call = Finds HasNoFreeFrame Stays call

-- rounds of reclaim, each of which wants one page and is followed by a refill: free frames are added to the list, or no
-- round leaves a free frame
abbrev pub MakesRefillRounds : ℕ → Bool → Transition VisitState → Type 0
MakesRefillRounds batch true call = SucceedsInRounds max_rounds 1 (LendsBatch batch) LendsNoFrame call
MakesRefillRounds batch false call = FailsInRounds max_rounds 1 LendsNoFrame call

-- it is noted that no frame is free, and such rounds follow
abbrev pub RefillsInRounds : ℕ → Bool → Transition VisitState → Type 0
RefillsInRounds batch filled call = AfterZoneNote 0 (MakesRefillRounds batch filled) call

-- free frames are added to the list: at once or, if none is free, after rounds of reclaim
abbrev pub RefillsList : ℕ → Transition VisitState → Type 0
RefillsList batch call = LendsBatch batch call ⊎ Finds HasNoFreeFrame (RefillsInRounds batch true) call

-- no frame is free, not even after rounds of reclaim; then the CPU's stock is drained
abbrev pub DrainsForNoFrame : ℕ → Transition VisitState → Type 0
DrainsForNoFrame batch call =
    Finds HasNoFreeFrame (InTurn (RefillsInRounds batch false) (Finds HasNoFreeFrame DrainsStock)) call

-- the CPU's list is empty
abbrev pub HasEmptyList : VisitState → Type 0
HasEmptyList now = now.cpu.list ≡ []

-- the CPU's list has a frame: it had one before, or free frames are added to it; or no frame is free
abbrev pub FillsList : Config → Result (Unit {0}) AllocFault → Transition VisitState → Type 0
FillsList sizes (Ok done) call =
    Finds (λ now. 1 ≤ length now.cpu.list) Stays call ⊎ Finds HasEmptyList (RefillsList sizes.batch) call
FillsList sizes (Err NoFrames) call = Finds HasEmptyList (DrainsForNoFrame sizes.batch) call
FillsList sizes (Err other) call = ⊥

-- The CPU's stock gets a page of the group, and its list a frame. The front of the list is paid for with that page.
pub record GetsFrame (sizes : Config) (group frame : ℕ) (call : Transition VisitState) : Type 0 where
  pub paid : VisitState
  pub filled : VisitState
  pub paying : Run
  pub filling : Run
  pub pays : PaysForFrame sizes group (Ok tt) (transition call.table call.before paying paid)
  pub fills : FillsList sizes (Ok tt) (transition call.table paid filling filled)
  pub takes : PaysForFront call.table group frame filled call.after
  pub steps_are : call.steps ≡ paying ++ (filling ++ take_front_steps call.before.cpu.number group)

-- the group isn't killed, and `Does` holds
abbrev pub UnlessKilled : ℕ → (Transition VisitState → Type 0) → Transition VisitState → Type 0
UnlessKilled group Does call = Finds (λ now. is_killed now.machine.killed group ≡ false) Does call

-- the group was killed before, and nothing changed
abbrev pub RefusesKilled : ℕ → Transition VisitState → Type 0
RefusesKilled group call = Finds (λ now. is_killed now.machine.killed group ≡ true) Stays call

-- Allocates one frame for the group, or says why not. The group may have been killed before. A charge may be refused
-- for good. Or a page is charged, but there is no frame for it.
abbrev pub AllocatesFrame : Config → ℕ → Result ℕ AllocFault → Transition VisitState → Type 0
AllocatesFrame sizes group (Ok frame) call = UnlessKilled group (GetsFrame sizes group frame) call
AllocatesFrame sizes group (Err (Over over)) call = UnlessKilled group (PaysForFrame sizes group (Err (Over over))) call
AllocatesFrame sizes group (Err NoFrames) call =
    UnlessKilled group (InTurn (PaysForFrame sizes group (Ok tt)) (FillsList sizes (Err NoFrames))) call
AllocatesFrame sizes group (Err RequesterKilled) call =
    RefusesKilled group call ⊎ UnlessKilled group (PaysForFrame sizes group (Err RequesterKilled)) call
