-- Functions changed at one number, and states that differ in three fields.
use Rattle.std.proofs.Common.{◌≡◌, ℕ, ◌==◌, Bool, true, false, refl, sym, subst, inl, inr, cond, eq-eqb}
use Rattle.std.proofs.lemmas.Bool.{cases_eq, ne_eqb, cond-true, cond-false}
use Rattle.step_rules.specs.declared.phase.Phase.{Phase}
use Rattle.step_rules.specs.State.{State, Part, with_at}

pub at_same : {X : Type 0} (h : ℕ → X) (k : ℕ) (x : X) → with_at h k x k ≡ x
at_same h k x = cond-true (k == k) x (h k) (eq-eqb k k refl)

pub at_other : {X : Type 0} (h : ℕ → X) (k : ℕ) (x : X) (m : ℕ) → (m ≡ k → ⊥) → with_at h k x m ≡ h m
at_other h k x m ne = cond-false (m == k) x (h m) (ne_eqb m k ne)

-- what holds at the changed number and at each other holds everywhere
pub at_each : {X : Type 0} (h : ℕ → X) (k : ℕ) (x : X) (P : ℕ → X → Type 0) → P k x → ((m : ℕ) → (m ≡ k → ⊥) → P m (h m)) → (m : ℕ) → P m (with_at h k x m)
at_each h k x P here other m =
    elim (cases_eq m k) [
      | inl e ↦ subst (λ (n : ℕ). P n (with_at h k x n)) (sym e) (subst (P k) (sym (at_same h k x)) here)
      | inr ne ↦ subst (P m) (sym (at_other h k x m ne)) (other m ne)
    ]

-- a function that is changed to what it has is the same
pub at_itself : {X : Type 0} (h : ℕ → X) (k : ℕ) → with_at h k (h k) ≡ h
at_itself h k = λ i. λ m. at_each h k (h k) (λ n x. x ≡ h n) refl (λ n ne. refl) m i

pub cond-ap : {X Y : Type 0} (H : X → Y) (b : Bool) (x y : X) → H (cond b x y) ≡ cond b (H x) (H y)
cond-ap H true x y = refl
cond-ap H false x y = refl

-- a change is seen through a function
pub at_through : {X Y : Type 0} (H : X → Y) (h : ℕ → X) (k : ℕ) (x : X) → (λ (m : ℕ). H (with_at h k x m)) ≡ with_at (λ m. H (h m)) k (H x)
at_through H h k x = λ i. λ m. cond-ap H (m == k) x (h m) i

-- states that differ in the phases, the references and the parts
pub same_state : (s : State) {ph ph' : ℕ → Phase} {re re' : ℕ → ℕ → ℕ} {pa pa' : ℕ → Part} → ph ≡ ph' → re ≡ re' → pa ≡ pa' →
    ◌≡◌ {A = State} (record s { phases = ph; references = re; parts = pa }) (record s { phases = ph'; references = re'; parts = pa' })
same_state s a b c = λ i. record s { phases = a i; references = b i; parts = c i }
