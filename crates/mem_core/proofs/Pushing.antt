-- One more pair at the end of a run (for `play`).
use Rattle.std.proofs.Common.{◌≡◌, ℕ, ◌<◌, Some, List, [], ◌∷◌, ◌++◌, length, take, refl, arith, inl, inr, length-append, IfSome, zero, suc}
use Rattle.std.specs.List.{slice_get}
use Rattle.std.proofs.lemmas.Bool.{cases_lt, cases_eq}
use Rattle.std.proofs.lemmas.List.{take-append-le, take_at}
use Rattle.std.proofs.lemmas.Option.{slice_get_past}
use Rattle.step_rules.specs.declared.step.Step.{Step}
use Rattle.step_rules.specs.declared.step.Answer.{Answer}
use Rattle.step_rules.specs.{Run, pushed}

slice_get-push_before : {X : Type 0} (xs : List X) (x : X) (k : ℕ) → k < length xs → slice_get (xs ++ x ∷ []) k ≡ slice_get xs k
slice_get-push_before [] x k h = absurd (omega arith)
slice_get-push_before (y ∷ ys) x zero h = refl
slice_get-push_before (y ∷ ys) x (suc k) h = slice_get-push_before ys x k (omega arith)

slice_get-push_at : {X : Type 0} (xs : List X) (x : X) → slice_get (xs ++ x ∷ []) (length xs) ≡ Some x
slice_get-push_at [] x = refl
slice_get-push_at (y ∷ ys) x = slice_get-push_at ys x

-- what holds of each step and the beginning before it holds with one more such step
pub each_step_push : (P : Run → Step → Answer → Type 0) (run : Run) (step : Step) (answer : Answer)
    → ((k : ℕ) → IfSome (slice_get run k) (λ e. P (take k run) e.0 e.1)) → P run step answer → (k : ℕ)
    → IfSome (slice_get (pushed run step answer) k) (λ e. P (take k (pushed run step answer)) e.0 e.1)
each_step_push P run step answer each last k =
    elim (cases_lt k (length run)) [
      | inl before ↦
          let here : IfSome (slice_get run k) (λ e. P (take k run) e.0 e.1) = each k in
          rw (slice_get-push_before run (step, answer) k before, take-append-le k run ((step, answer) ∷ []) (omega arith)) here
      | inr past ↦ elim (cases_eq k (length run)) [
        | inl at ↦ rw (at, slice_get-push_at run (step, answer), take_at run ((step, answer) ∷ []) (length run) refl) last
        | inr beyond ↦ rw (slice_get_past (pushed run step answer) k (let e = length-append run ((step, answer) ∷ []) in omega arith)) tt
      ]
    ]
