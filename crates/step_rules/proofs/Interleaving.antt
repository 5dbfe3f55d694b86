-- Local steps of a CPU among others' steps. Serves `local_runs_interleave`, `local_runs_compose`.
use Rattle.std.proofs.Common.{◌≡◌, ℕ, ◌==◌, Bool, cond, false, [], ◌∷◌, sym, ◌∙◌, subst, inl, inr, eq-eqb, zero, suc, take}
use Rattle.std.specs.Prelude.{IfSome}
use Rattle.std.specs.List.{slice_get}
use Rattle.std.proofs.lemmas.Bool.{cases_Bool, true≢false, or_left, or_right}
use Rattle.std.proofs.lemmas.List.{append_assoc, append-nil}
use Rattle.step_rules.specs.State.{State}
use Rattle.step_rules.specs.{Run, after, state_of, ShowsLocal, pushed, IsLocalRun, is_own, own_steps, MayFollow, IsInterleaved, LocalRunsInterleave}
use Rattle.step_rules.specs.{LocalRunsCompose}
use Rattle.step_rules.proofs.LocalLaws.{own_step_is_legal, other_step_is_hidden}

pub local_runs_compose : LocalRunsCompose
local_runs_compose p a [] b second c first then_so = subst (λ (x : State). IsLocalRun p x second c) (sym first) then_so
local_runs_compose p a (e ∷ steps) b second c first then_so = (first.0, local_runs_compose p (after a e.0.seat e.0.action e.1) steps b second c first.1 then_so)

not_own : (p seat : ℕ) → is_own p seat ≡ false → (seat ≡ 0 → ⊥) × (seat ≡ p → ⊥)
not_own p seat other = (
  λ e. true≢false (sym (or_left (seat == 0) (seat == p) (eq-eqb seat 0 e)) ∙ other),
  λ e. true≢false
      (sym (or_right (seat == 0) (seat == p) (eq-eqb seat p e)) ∙ other),
)

pub local_runs_interleave : LocalRunsInterleave
local_runs_interleave zone run p a [] b shows leads mixes =
    subst (λ (r : Run). ShowsLocal zone r p b) (sym (append-nil run)) (subst (ShowsLocal zone run p) leads shows)
local_runs_interleave zone run p a (e ∷ mixed) b shows leads mixes =
    let here : MayFollow p (state_of zone run) e.0.seat e.0.action e.1 =
    subst (λ (r : Run). MayFollow p (state_of zone r) e.0.seat e.0.action e.1) (append-nil run) (mixes zero) in
    let later : IsInterleaved zone (pushed run e.0 e.1) p mixed = λ k.
    subst (λ (r : Run). IfSome (slice_get mixed k) (λ d. MayFollow p (state_of zone r) d.0.seat d.0.action d.1))
    (sym (append_assoc run (e ∷ []) (take k mixed))) (mixes (suc k)) in
    subst (λ (r : Run). ShowsLocal zone r p b) (append_assoc run (e ∷ []) mixed)
    (elim (cases_Bool (is_own p e.0.seat)) [
      | inl own ↦
          let parts : IsLocalRun p a (e ∷ own_steps p mixed) b =
          subst (λ (c : Bool). IsLocalRun p a (cond c (e ∷ own_steps p mixed) (own_steps p mixed)) b) own leads in
          local_runs_interleave zone (pushed run e.0 e.1) p (after a e.0.seat e.0.action e.1) mixed b
          (own_step_is_legal zone run p a e.0 e.1 shows parts.0 (here.own own)) parts.1 later
      | inr other ↦
          let rest : IsLocalRun p a (own_steps p mixed) b =
          subst (λ (c : Bool). IsLocalRun p a (cond c (e ∷ own_steps p mixed) (own_steps p mixed)) b) other leads in
          local_runs_interleave zone (pushed run e.0 e.1) p a mixed b
          (other_step_is_hidden zone run p a e.0 e.1 shows (inl (not_own p e.0.seat other)) (here.other other)) rest later
    ])
