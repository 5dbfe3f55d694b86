-- Serves `allocate`: what an allocation for a group came to is what an Alloc does.
use Rattle.std.proofs.Common.{◌≡◌, ◌≤◌, ℕ, zero, suc, IsTrue, List, [], refl, arith}
use Rattle.std.specs.Prelude.{Result, Ok, Err, MatchResult, ◌≢◌, ◌∷◌}
use Rattle.group_tree.specs.Groups.{has_group}
use Rattle.group_charge.specs.Charges.{Ledger}
use Rattle.zone_blocks.specs.declared.config.Config.{Config}
use Rattle.mem_machine.specs.{VisitState}
use Rattle.mem_alloc.specs.declared.faults.AllocFault.{AllocFault}
use Rattle.mem_alloc.specs.declared.faults.AllocFault.TheVariants.{Over, NoFrames, RequesterKilled}
use Rattle.mem_system.specs.{Allocates, AllocatesAs, FreshOf, outcome_of, HasItsGroups}
use Rattle.mem_system.specs.Commands.{Transition}

pub allocated : (sizes : Config) (group order : ℕ) (call : Transition VisitState) → order ≤ 10 → (answer : Result ℕ AllocFault)
    → AllocatesAs sizes group order answer call → Allocates sizes group order (outcome_of answer) call
allocated sizes group order call within (Ok f) done = (within, done)
allocated sizes group order call within (Err (Over g)) done = (within, done)
allocated sizes group order call within (Err NoFrames) done = (within, done)
allocated sizes group order call within (Err RequesterKilled) done = (within, done)

-- the group that is over its limit is there
pub has_groups : (l : Ledger) (answer : Result ℕ AllocFault) → ((g : ℕ) → answer ≡ Err (Over g) → IsTrue (has_group l.groups g))
    → HasItsGroups l (outcome_of answer)
has_groups l (Ok f) there = tt
has_groups l (Err (Over g)) there = there g refl
has_groups l (Err NoFrames) there = tt
has_groups l (Err RequesterKilled) there = tt

-- a single frame that was allocated is fresh then, and after a refusal none is
pub frame_fresh : (order : ℕ) (answer : Result ℕ AllocFault) (fresh : List ℕ) → order ≡ 0
    → MatchResult answer (λ f. fresh ≡ f ∷ []) (λ cause. fresh ≡ []) → FreshOf (outcome_of answer) order fresh
frame_fresh zero (Ok f) fresh single is = is
frame_fresh (suc n) (Ok f) fresh single is = absurd (omega (arith, single))
frame_fresh order (Err (Over g)) fresh single is = is
frame_fresh order (Err NoFrames) fresh single is = is
frame_fresh order (Err RequesterKilled) fresh single is = is

-- no frame of a block is fresh
pub block_fresh : (order : ℕ) (answer : Result ℕ AllocFault) (fresh : List ℕ) → order ≢ 0
    → fresh ≡ [] → FreshOf (outcome_of answer) order fresh
block_fresh zero (Ok f) fresh block none = absurd (block refl)
block_fresh (suc n) (Ok f) fresh block none = none
block_fresh order (Err (Over g)) fresh block none = none
block_fresh order (Err NoFrames) fresh block none = none
block_fresh order (Err RequesterKilled) fresh block none = none
