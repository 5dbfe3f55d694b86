-- What an Alloc does, and its outcomes.
use Rattle.std.specs.Prelude.{◌≡◌, ◌≢◌, ℕ, zero, ◌<◌, ◌≤◌, Result, Ok, Err, List, [], ◌∷◌}
use Rattle.group_tree.specs.declared.fault.Fault.TheVariants as fault
use Rattle.zone_blocks.specs.declared.config.Config.{Config}
use Rattle.mem_machine.specs.{VisitState, Transition, Stays}
use Rattle.mem_alloc.specs.declared.faults.AllocFault.{AllocFault}
use Rattle.mem_alloc.specs.declared.faults.AllocFault.TheVariants.{Over, NoFrames, RequesterKilled}
use Rattle.mem_alloc.specs.{AllocatesFrame, AllocatesBlock}
use Rattle.mem_system.specs.declared.outcome.Outcome.{Outcome}
use Rattle.mem_system.specs.declared.outcome.Outcome.TheVariants.{Frame, OverLimit, Refused}

-- an allocation of this order for the group: a single frame if the order is 0, else a block
pub record AllocatesAs (sizes : Config) (group order : ℕ) (answer : Result ℕ AllocFault)
    (call : Transition VisitState) : Type 0 where
  pub frame : order ≡ 0 → AllocatesFrame sizes group answer call
  pub block : order ≢ 0 → AllocatesBlock group order answer call

-- the order is at most 10, and the allocation is made with this answer
abbrev pub AllocatesWithin : Config → (group order : ℕ) → Result ℕ AllocFault → Transition VisitState → Type 0
AllocatesWithin sizes group order answer call = (order ≤ 10) × AllocatesAs sizes group order answer call

-- Alloc: the outcome is the frame or the head of the block, or a refusal for the first cause that holds
abbrev pub Allocates : Config → (group order : ℕ) → Outcome → Transition VisitState → Type 0
Allocates sizes group order (Frame head) call = AllocatesWithin sizes group order (Ok head) call
Allocates sizes group order (OverLimit over) call = AllocatesWithin sizes group order (Err (Over over)) call
Allocates sizes group order (Refused fault.BadOrder) call = (10 < order) × Stays call
Allocates sizes group order (Refused fault.NoFrames) call = AllocatesWithin sizes group order (Err NoFrames) call
Allocates sizes group order (Refused fault.Killed) call = AllocatesWithin sizes group order (Err RequesterKilled) call
Allocates sizes group order other call = ⊥

-- the outcome of an allocation, by its answer
abbrev pub outcome_of : Result ℕ AllocFault → Outcome
outcome_of (Ok head) = Frame head
outcome_of (Err (Over group)) = OverLimit group
outcome_of (Err NoFrames) = Refused fault.NoFrames
outcome_of (Err RequesterKilled) = Refused fault.Killed

-- the fresh frames after an allocation of this order: the frame that the outcome names if the order is 0, else none
abbrev pub FreshOf : Outcome → (order : ℕ) (fresh : List ℕ) → Type 0
FreshOf (Frame head) zero fresh = fresh ≡ head ∷ []
FreshOf other order fresh = fresh ≡ []
