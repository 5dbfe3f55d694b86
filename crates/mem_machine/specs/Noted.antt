-- What the machine has of the run: the pasts and the watch. Under the lock both go on with each step.
use Rattle.std.specs.Prelude.{◌≡◌, ℕ, [], ◌∷◌, ⊤}
use Rattle.std.specs.List.{fold}
use Rattle.step_rules.specs.declared.step.Step.{Step}
use Rattle.step_rules.specs.declared.step.Answer.{Answer}
use Rattle.step_rules.specs.State.{State}
use Rattle.step_rules.specs.{Run, after, IsLocalStep}
use Rattle.boot_words.specs.{KnownPasts, IsHeld, MakesStep, cpu_past, local_by_pasts, own_past, GrewByAll, KnownTable}
use Rattle.step_watch.specs.Watched.{KnownWatch, Watches}

-- the zone's past, which has that of the lock's holder too, and the watch
pub record KnownRun : Type 0 where
  pub past : KnownPasts
  pub watch : KnownWatch

-- the state after a step with its answer
abbrev pub after_made : State → Step × Answer → State
after_made s made = after s made.0.seat made.0.action made.1

-- The pasts have grown by these steps: if a CPU held the lock, it still does, and sees what the steps make of what it
-- saw. Then both pasts, the zone's and the CPU's, have these steps after what they had, in this order.
pub record PastsGrowBy (table : KnownTable) (before : KnownPasts) (steps : Run) (later : KnownPasts) : Type 0 where
  pub held : IsHeld table before → IsHeld table later
  pub holder : IsHeld table before → (cpu_past later).number ≡ (cpu_past before).number
  pub sees : IsHeld table before → local_by_pasts table later ≡ fold after_made (local_by_pasts table before) steps
  pub zone_grew : IsHeld table before → GrewByAll (own_past before) steps (own_past later)
  pub cpu_grew : IsHeld table before → GrewByAll (cpu_past before) steps (cpu_past later)

-- the pasts have grown by these steps, and the watch took them
pub record Records (table : KnownTable) (before : KnownRun) (steps : Run) (later : KnownRun) : Type 0 where
  pub grew : PastsGrowBy table before.past steps later.past
  pub watched : Watches before.watch steps later.watch

-- each step of the list is a local step of this CPU after those before it
abbrev pub AreLocal : ℕ → State → Run → Type 0
AreLocal cpu state [] = ⊤
AreLocal cpu state (made ∷ rest) =
    IsLocalStep state cpu made.0.seat made.0.action made.1 × AreLocal cpu (after_made state made) rest

-- the step is a local step, with an answer that it may get, in what the lock's holder sees
abbrev pub MayTake : KnownTable → KnownPasts → Step × Answer → Type 0
MayTake table past made =
    IsLocalStep (local_by_pasts table past) (cpu_past past).number made.0.seat made.0.action made.1

-- the steps may be taken, one after the other: each when those before it were made
abbrev pub MayTakeAll : KnownTable → KnownPasts → Run → Type 0
MayTakeAll table past [] = ⊤
MayTakeAll table past (made ∷ rest) = MayTake table past made
    × ((later : KnownPasts) → MakesStep table past made.0.seat made.0.action made.1 later → MayTakeAll table later rest)
