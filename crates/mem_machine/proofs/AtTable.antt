-- The table of the boot is the one that the calls are given: what is said of one is said of the other. Serves the atomic
-- calls of the zone's seat, whose number is 0.
use Rattle.std.proofs.Common.{◌≡◌, ℕ, sym, subst}
use Rattle.step_rules.specs.declared.step.Action.{Action}
use Rattle.step_rules.specs.declared.step.Answer.{Answer}
use Rattle.step_rules.specs.declared.step.Step.{Step}
use Rattle.boot_words.specs.Pasts.{KnownPasts, IsHeld, MakesStep, MayMake}
use Rattle.boot_words.specs.Tables.{KnownTable}
use Rattle.mem_machine.specs.Noted.{MayTake}

pub held_at : (t u : KnownTable) → u ≡ t → (s : KnownPasts) → IsHeld t s → IsHeld u s
held_at t u is s held = subst (λ (x : KnownTable). IsHeld x s) (sym is) held

pub may_at : (t u : KnownTable) → u ≡ t → (seat : ℕ) → seat ≡ 0 → (s : KnownPasts) (action : Action) → MayMake t s 0 action → MayMake u s seat action
may_at t u is seat zone s action may = subst (λ (x : KnownTable × ℕ). MayMake x.0 s x.1 action) (λ j. (sym is j, sym zone j)) may

pub made_at : (t u : KnownTable) → u ≡ t → (seat : ℕ) → seat ≡ 0 → (s : KnownPasts) (action : Action) (answer : Answer) (later : KnownPasts) → MakesStep u s seat action answer later
    → MakesStep t s 0 action answer later
made_at t u is seat zone s action answer later made = subst (λ (x : KnownTable × ℕ). MakesStep x.0 s x.1 action answer later) (λ j. (is j, zone j)) made

pub take_at : (t u : KnownTable) → u ≡ t → (s : KnownPasts) (made : Step × Answer) → MayTake t s made → MayTake u s made
take_at t u is s made may = subst (λ (x : KnownTable). MayTake x s made) (sym is) may
