-- Which steps may be made, and which were made, at a table and a number that are known by other names.
use Rattle.std.proofs.Common.{◌≡◌, ℕ, sym, subst}
use Rattle.step_rules.specs.declared.step.Action.{Action}
use Rattle.step_rules.specs.After.{Run}
use Rattle.boot_words.specs.{AreLegal, MakesInTurn, KnownPasts, MayDo, MayMake, local_by_pasts, KnownTable}

module _ (t u : KnownTable) (same : u ≡ t) where
  pub may_do_at : (s : KnownPasts) (action : Action) → MayDo t s action → MayDo u s action
  may_do_at s action may = subst (λ (v : KnownTable). MayDo v s action) (sym same) may

  module _ (p q : ℕ) (named : q ≡ p) where
    pub may_make_at : (s : KnownPasts) (action : Action) → MayMake t s p action → MayMake u s q action
    may_make_at s action may = subst (λ (k : KnownTable × ℕ). MayMake k.0 s k.1 action) (λ i. (sym same i, sym named i)) may

pub are_legal_at : (t u : KnownTable) → u ≡ t → (p q : ℕ) (steps : ℕ → Run) → q ≡ p → (s : KnownPasts) → AreLegal (local_by_pasts t s) (steps p)
    → AreLegal (local_by_pasts u s) (steps q)
are_legal_at t u same p q steps named s legal = subst (λ (k : KnownTable × ℕ). AreLegal (local_by_pasts k.0 s) (steps k.1)) (λ i. (sym same i, sym named i)) legal

pub made_at : (t u : KnownTable) → u ≡ t → (p q : ℕ) (steps : ℕ → Run) → q ≡ p → (s later : KnownPasts) → MakesInTurn u s (steps q) later
    → MakesInTurn t s (steps p) later
made_at t u same p q steps named s later made = subst (λ (k : KnownTable × ℕ). MakesInTurn k.0 s (steps k.1) later) (λ i. (same i, named i)) made
