-- A list with one element less, its members: for `clear`.
use Rattle.std.proofs.Common.{◌≡◌, ◌≢◌, ℕ, ◌+◌, ◌-◌, ◌<◌, List, length, get_or, sym, ◌∙◌, inl, inr, arith}
use Rattle.std.specs.List.{AllPairs, Contains, remove}
use Rattle.std.proofs.lemmas.List.{get_or_default}
use Rattle.std.proofs.lemmas.List.Edits.{length-remove, get_or-remove_below, get_or-remove_above}
use Rattle.std.proofs.lemmas.Bool.{cases_lt, cases_order}

pub contains_remove_old : {X : Type 0} (xs : List X) (p : ℕ) (x : X) → p < length xs → Contains (remove xs p) x → Contains xs x
contains_remove_old xs p x within (k, l, e) =
    let n = length-remove xs p within in
    elim (cases_lt k p) [
      | inl lt ↦ (k, omega arith, sym (get_or-remove_below xs p x k lt within) ∙ e)
      | inr ge ↦ (k + 1, omega (arith, n), sym (get_or-remove_above xs p x k ge within) ∙ e)
    ]

pub contains_remove_keeps : {X : Type 0} (xs : List X) (p : ℕ) (y x : X) → p < length xs → get_or xs p y ≡ y → Contains xs x → x ≢ y → Contains (remove xs p) x
contains_remove_keeps xs p y x within here (k, l, e) other =
    let n = length-remove xs p within in
    elim (cases_order k p) [
      | inl q ↦ absurd (other (sym (rw q at e) ∙ get_or_default xs p x y within ∙ here))
      | inr q ↦ elim q [
        | inl lt ↦ (k, omega (arith, n), get_or-remove_below xs p x k lt within ∙ e)
        | inr gt ↦
            let k' : ℕ = k - 1 in
            let ek : k' + 1 ≡ k = omega arith in
            let g = rw ek at (get_or-remove_above xs p x k' (omega arith) within) in
            (k', omega (arith, n), g ∙ e)
      ]
    ]

-- where the order is strict, the removed element stood at one place alone
pub contains_remove_gone : {X : Type 0} (R : X → X → Type 0) (xs : List X) (p : ℕ) (y : X) → ((x : X) → R x x → ⊥) → AllPairs R xs
    → p < length xs → get_or xs p y ≡ y → Contains (remove xs p) y → ⊥
contains_remove_gone R xs p y strict h within here (k, l, e) =
    let n = length-remove xs p within in
    elim (cases_lt k p) [
      | inl lt ↦
          let g : get_or xs k y ≡ y = sym (get_or-remove_below xs p y k lt within) ∙ e in
          strict y (rw (g, here) at (h k p y lt within))
      | inr ge ↦
          let g : get_or xs (k + 1) y ≡ y = sym (get_or-remove_above xs p y k ge within) ∙ e in
          strict y (rw (here, g) at (h p (k + 1) y (omega arith) (omega (arith, n))))
    ]
