-- How blocks are allocated: they are taken from the zone and are kept units at once.
use Rattle.std.specs.Prelude.{◌≡◌, ◌⊎◌, ℕ, ◌^◌, Result, Ok, Err, IsOkAnd, ◌++◌}
use Rattle.group_tree.specs.Room.{PathHasRoom}
use Rattle.group_charge.specs.Charges.{current_of}
use Rattle.step_rules.specs.After.{Run}
use Rattle.mem_machine.specs.{KnownMachine, VisitState, visit_state, UnlistsMany, TakesBlock, TakesNoBlock, taken_steps, unplaced_steps, MayCharge}
use Rattle.mem_machine.specs.{drain_list_steps, InTurn, Transition, transition}
use Rattle.mem_reclaim.specs.Rounds.{max_rounds}
use Rattle.mem_alloc.specs.declared.faults.AllocFault.{AllocFault}
use Rattle.mem_alloc.specs.declared.faults.AllocFault.TheVariants.{Over, NoFrames, RequesterKilled}
use Rattle.mem_alloc.specs.Room.{AfterRoom, IsRefusedFor}
use Rattle.mem_alloc.specs.Rounds.{AfterZoneNote, FailsInRounds, SucceedsInRounds}
use Rattle.mem_alloc.specs.Frames.{RefusesKilled, UnlessKilled}

-- the group is charged for a free block and gets it
pub record TakesFreeBlock (group order head : ℕ) (call : Transition VisitState) : Type 0 where
  pub takes : TakesBlock group order head call.before.machine call.after.machine
  pub cpu : call.after.cpu ≡ call.before.cpu
  pub steps_are : call.steps ≡ taken_steps group order head

-- no block is free: the pages were charged and uncharged
pub record FindsNoBlock (group order : ℕ) (call : Transition VisitState) : Type 0 where
  pub none : TakesNoBlock group order call.before.machine call.after.machine
  pub cpu : call.after.cpu ≡ call.before.cpu
  pub steps_are : call.steps ≡ unplaced_steps group order

-- As soon as every limit has room, the block is charged and taken, or no block is free. Otherwise the charge is refused
-- for good.
abbrev pub ChargesBlock : ℕ → ℕ → Result ℕ AllocFault → Transition VisitState → Type 0
ChargesBlock group order (Ok head) call = AfterRoom group (2 ^ order) (TakesFreeBlock group order head) call
ChargesBlock group order (Err (Over over)) call = IsRefusedFor group (2 ^ order) (Over over) call
ChargesBlock group order (Err NoFrames) call = AfterRoom group (2 ^ order) (FindsNoBlock group order) call
ChargesBlock group order (Err RequesterKilled) call = IsRefusedFor group (2 ^ order) RequesterKilled call

-- no limit refuses a block for the group: its pages may be charged, and each limit on its path has room for them
pub record MayHaveBlock (machine : KnownMachine) (group order : ℕ) : Type 0 where
  pub charges : MayCharge machine group (2 ^ order)
  pub room : PathHasRoom machine.ledger.groups (current_of machine.ledger) group (2 ^ order)

-- rounds of reclaim, each of which wants the pages of the block: in one of them the block is taken, or in none is any
-- block free
abbrev pub MakesTakeRounds : ℕ → ℕ → Result ℕ AllocFault → Transition VisitState → Type 0
MakesTakeRounds group order (Ok head) call =
    SucceedsInRounds max_rounds (2 ^ order) (TakesFreeBlock group order head) (FindsNoBlock group order) call
MakesTakeRounds group order (Err NoFrames) call = FailsInRounds max_rounds (2 ^ order) (FindsNoBlock group order) call
MakesTakeRounds group order (Err other) call = ⊥

-- it is noted that no block of the order is free, and such rounds follow
abbrev pub TakesInRounds : ℕ → ℕ → Result ℕ AllocFault → Transition VisitState → Type 0
TakesInRounds group order answer call = AfterZoneNote order (MakesTakeRounds group order answer) call

-- a free block is taken at once; or none is free, and this is the result of the rounds of reclaim that follow
abbrev pub TakesOrReclaims : ℕ → ℕ → Result ℕ AllocFault → Transition VisitState → Type 0
TakesOrReclaims group order answer call =
    IsOkAnd answer (λ head. TakesFreeBlock group order head call)
    ⊎ InTurn (FindsNoBlock group order) (TakesInRounds group order answer) call

-- all frames of the CPU's list are returned to the zone, and then the block is taken
pub record TakesAfterDrain (group order : ℕ) (answer : Result ℕ AllocFault) (call : Transition VisitState)
    : Type 0 where
  pub drained : KnownMachine
  pub later : Run
  pub drains : UnlistsMany call.before.cpu.list call.before (visit_state drained call.after.cpu)
  pub takes : TakesOrReclaims group order answer
      (transition call.table (visit_state drained call.after.cpu) later call.after)
  pub steps_are : call.steps ≡ drain_list_steps call.before.cpu.number call.before.cpu.list ++ later

-- no block is free at first, and this is the result after the list is drained
abbrev pub RetriesBlock : ℕ → ℕ → Result ℕ AllocFault → Transition VisitState → Type 0
RetriesBlock group order answer call =
    InTurn (ChargesBlock group order (Err NoFrames)) (TakesAfterDrain group order answer) call

-- Allocates a block for the group, or says why not. The group may have been killed before. Its charge may be refused
-- for good. Or no block is free, even after rounds of reclaim.
abbrev pub AllocatesBlock : ℕ → ℕ → Result ℕ AllocFault → Transition VisitState → Type 0
AllocatesBlock group order (Ok head) call =
    UnlessKilled group (ChargesBlock group order (Ok head)) call
    ⊎ UnlessKilled group (RetriesBlock group order (Ok head)) call
AllocatesBlock group order (Err (Over over)) call = UnlessKilled group (ChargesBlock group order (Err (Over over))) call
AllocatesBlock group order (Err NoFrames) call = UnlessKilled group (RetriesBlock group order (Err NoFrames)) call
AllocatesBlock group order (Err RequesterKilled) call =
    RefusesKilled group call ⊎ UnlessKilled group (ChargesBlock group order (Err RequesterKilled)) call
