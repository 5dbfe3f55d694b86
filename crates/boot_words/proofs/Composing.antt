-- Several steps of the run that one atomic step makes: what a seat may make of all words, one step after the other.
use Rattle.std.proofs.Common.{[], ◌≡◌, ℕ, zero, suc, List, ◌∷◌, set, refl, ap, sym, ◌∙◌, subst}
use Rattle.step_rules.specs.declared.step.Step.{Step}
use Rattle.step_rules.specs.declared.step.Answer.{Answer}
use Rattle.step_rules.specs.State.{Zone, State}
use Rattle.step_rules.specs.After.{Run}
use Rattle.boot_words.specs.declared.past.Past.{Past}
use Rattle.boot_words.specs.{AreLegal, GrewInTurn, GrewUnderLock, HoldsLock, local_seen}

pub set_over : {A : Type 0} (xs : List A) (i : ℕ) (x y : A) → set (set xs i x) i y ≡ set xs i y
set_over [] i x y = refl
set_over (z ∷ xs) zero x y = refl
set_over (z ∷ xs) (suc i) x y = ap (λ l. z ∷ l) (set_over xs i x y)

-- ---- in the midst of a list of steps
-- Some steps of the list are made: the holder still has the lock, the rest is legal, and pasts that grow by the rest have grown by all.
pub record Midst (zone : Zone) (z c : Past) (steps : Run) (x y : Past) (rest : Run) : Type 0 where
  pub number : y.number ≡ c.number
  pub holds : HoldsLock zone x y (local_seen zone y)
  pub legal : AreLegal (local_seen zone y) rest
  pub on : (x' y' : Past) → GrewInTurn zone x y rest x' y' → GrewInTurn zone z c steps x' y'

pub at_first : (zone : Zone) (z c : Past) (steps : Run) → HoldsLock zone z c (local_seen zone c) → AreLegal (local_seen zone c) steps → Midst zone z c steps z c steps
at_first zone z c steps holds legal = record { number = refl; holds = holds; legal = legal; on = λ x' y' grew. grew }

pub then_made : (zone : Zone) (z c : Past) (steps : Run) (x y x' y' : Past) (made : Step × Answer) (rest : Run) → Midst zone z c steps x y (made ∷ rest)
    → GrewUnderLock zone x y made x' y' → Midst zone z c steps x' y' rest
then_made zone z c steps x y x' y' made rest at grew = record {
  number = grew.cpu_grew.number ∙ at.number;
  holds = grew.holds;
  legal = subst (λ (l : State). AreLegal l rest) (sym grew.local_is) at.legal.1;
  on = λ u w more. at.on u w (x', y', grew, more);
}
