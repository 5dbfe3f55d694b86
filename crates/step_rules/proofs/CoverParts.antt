-- Parts and references under the cover.
use Rattle.std.proofs.Common.{◌≡◌, ℕ, ◌||◌, ◌==◌, Bool, true, false, refl, sym, ◌∙◌, ap, inl, inr, cond, if◌then◌else◌, eq-eqb}
use Rattle.std.specs.Prelude.{◌⊎◌}
use Rattle.std.proofs.lemmas.Bool.{cases_eq, ne_eqb, cond-true, cond-false, or_left, or_right, or_from}
use Rattle.step_rules.specs.{Part, with_at, other_part_seen, parts_seen_by, references_seen_by}
use Rattle.step_rules.proofs.Basics.{at_same, at_other}
use Rattle.step_rules.proofs.Referring.{Referring, changed}

pub own_part : (p : ℕ) (parts : ℕ → Part) (q : ℕ) → q ≡ p → parts_seen_by p parts q ≡ parts q
own_part p parts q e = cond-true (q == p) (parts q) (other_part_seen (parts q)) (eq-eqb q p e)

pub other_part : (p : ℕ) (parts : ℕ → Part) (q : ℕ) → (q ≡ p → ⊥) → parts_seen_by p parts q ≡ other_part_seen (parts q)
other_part p parts q ne = cond-false (q == p) (parts q) (other_part_seen (parts q)) (ne_eqb q p ne)

-- what the cover leaves of any part
pub part_seen : {Y : Type 0} (T : Part → Y) → ((part : Part) → T (other_part_seen part) ≡ T part) → (p : ℕ) (parts : ℕ → Part) (q : ℕ) →
    T (parts_seen_by p parts q) ≡ T (parts q)
part_seen T same p parts q = seen (q == p)
  where
    seen : (b : Bool) → T (cond b (parts q) (other_part_seen (parts q))) ≡ T (parts q)
    seen true = refl
    seen false = same (parts q)

-- a change of a part under the cover
part_changed : (p : ℕ) (parts : ℕ → Part) (q : ℕ) (part : Part) →
    parts_seen_by p (with_at parts q part) ≡ with_at (parts_seen_by p parts) q (if q == p then part else other_part_seen part)
part_changed p parts q part = λ i. λ m. changed_at m i
  where
    changed_at : (m : ℕ) → parts_seen_by p (with_at parts q part) m ≡ with_at (parts_seen_by p parts) q (if q == p then part else other_part_seen part) m
    changed_at m = elim (cases_eq m q) [
      | inl e ↦
          ap (λ (k : ℕ). parts_seen_by p (with_at parts q part) k) e
          ∙ ap (λ (x : Part). cond (q == p) x (other_part_seen x)) (at_same parts q part)
          ∙ sym (at_same (parts_seen_by p parts) q (if q == p then part else other_part_seen part))
          ∙ sym (ap (with_at (parts_seen_by p parts) q (if q == p then part else other_part_seen part)) e)
      | inr ne ↦
          ap (λ (x : Part). cond (m == p) x (other_part_seen x)) (at_other parts q part m ne)
          ∙ sym (at_other (parts_seen_by p parts) q (if q == p then part else other_part_seen part) m ne)
    ]

-- a CPU's own part changes under the cover as it does
pub own_changed : (p : ℕ) (parts : ℕ → Part) (q : ℕ) (F : Part → Part) → q ≡ p →
    parts_seen_by p (with_at parts q (F (parts q))) ≡ with_at (parts_seen_by p parts) q (F (parts_seen_by p parts q))
own_changed p parts q F e =
    part_changed p parts q (F (parts q))
    ∙ ap (with_at (parts_seen_by p parts) q) (cond-true (q == p) (F (parts q)) (other_part_seen (F (parts q))) (eq-eqb q p e) ∙ ap F (sym (own_part p parts q e)))

-- a change that the cover lets through
pub any_changed : (p : ℕ) (parts : ℕ → Part) (q : ℕ) (F : Part → Part) → other_part_seen (F (parts q)) ≡ F (other_part_seen (parts q)) →
    parts_seen_by p (with_at parts q (F (parts q))) ≡ with_at (parts_seen_by p parts) q (F (parts_seen_by p parts q))
any_changed p parts q F same =
    elim (cases_eq q p) [
      | inl e ↦ own_changed p parts q F e
      | inr ne ↦
          part_changed p parts q (F (parts q))
          ∙ ap (with_at (parts_seen_by p parts) q) (cond-false (q == p) (F (parts q)) (other_part_seen (F (parts q))) (ne_eqb q p ne) ∙ same
          ∙ ap F (sym (other_part p parts q ne)))
    ]

-- another CPU's change that the cover hides
pub other_changed : (p : ℕ) (parts : ℕ → Part) (q : ℕ) (part : Part) → (q ≡ p → ⊥) → other_part_seen part ≡ other_part_seen (parts q) →
    parts_seen_by p (with_at parts q part) ≡ parts_seen_by p parts
other_changed p parts q part ne same = λ i. λ m. hidden_at m i
  where
    hidden_at : (m : ℕ) → parts_seen_by p (with_at parts q part) m ≡ parts_seen_by p parts m
    hidden_at m = elim (cases_eq m q) [
      | inl e ↦
          ap (λ (k : ℕ). parts_seen_by p (with_at parts q part) k) e
          ∙ ap (λ (x : Part). cond (q == p) x (other_part_seen x)) (at_same parts q part)
          ∙ cond-false (q == p) part (other_part_seen part) (ne_eqb q p ne)
          ∙ same ∙ sym (other_part p parts q ne) ∙ sym (ap (parts_seen_by p parts) e)
      | inr other ↦ ap (λ (x : Part). cond (m == p) x (other_part_seen x)) (at_other parts q part m other)
    ]

-- the zone's seat and p see their references
pub own_reference : (p : ℕ) (references : Referring) (seat f : ℕ) → (seat ≡ 0) ⊎ (seat ≡ p) → references_seen_by p references seat f ≡ references seat f
own_reference p references seat f own =
    cond-true (seat == 0 || seat == p) (references seat f) 0 (elim own [
      | inl e ↦ or_left (seat == 0) (seat == p) (eq-eqb seat 0 e)
      | inr e ↦ or_right (seat == 0) (seat == p) (eq-eqb seat p e)
    ])

pub other_reference : (p : ℕ) (references : Referring) (seat f : ℕ) → (seat ≡ 0 → ⊥) → (seat ≡ p → ⊥) → references_seen_by p references seat f ≡ 0
other_reference p references seat f ne other =
    cond-false (seat == 0 || seat == p) (references seat f) 0 (or_from (seat == 0) (seat == p) (ne_eqb seat 0 ne) (ne_eqb seat p other))

pub own_referred : (p : ℕ) (references : Referring) (seat f n : ℕ) → (seat ≡ 0) ⊎ (seat ≡ p) →
    references_seen_by p (changed references seat f n) ≡ changed (references_seen_by p references) seat f n
own_referred p references seat f n own = λ i. λ q. λ x. referred q x i
  where
    here : (x : ℕ) → with_at (references seat) f n x ≡ with_at (references_seen_by p references seat) f n x
    here x = ap (λ (y : ℕ). cond (x == f) n y) (sym (own_reference p references seat x own))

    referred : (q x : ℕ) → references_seen_by p (changed references seat f n) q x ≡ changed (references_seen_by p references) seat f n q x
    referred q x = elim (cases_eq q seat) [
      | inl e ↦
          ap (λ (k : ℕ). references_seen_by p (changed references seat f n) k x) e
          ∙ own_reference p (changed references seat f n) seat x own
          ∙ ap (λ (r : ℕ → ℕ). r x) (at_same references seat (with_at (references seat) f n))
          ∙ here x
          ∙ sym (ap (λ (r : ℕ → ℕ). r x) (at_same (references_seen_by p references) seat (with_at (references_seen_by p references seat) f n)))
          ∙ sym (ap (λ (k : ℕ). changed (references_seen_by p references) seat f n k x) e)
      | inr ne ↦
          ap (λ (r : ℕ → ℕ). cond (q == 0 || q == p) (r x) 0) (at_other references seat (with_at (references seat) f n) q ne)
          ∙ sym (ap (λ (r : ℕ → ℕ). r x) (at_other (references_seen_by p references) seat (with_at (references_seen_by p references seat) f n) q ne))
    ]

pub other_referred : (p : ℕ) (references : Referring) (seat f n : ℕ) → (seat ≡ 0 → ⊥) → (seat ≡ p → ⊥) →
    references_seen_by p (changed references seat f n) ≡ references_seen_by p references
other_referred p references seat f n ne other = λ i. λ q. λ x. referred q x i
  where
    referred : (q x : ℕ) → references_seen_by p (changed references seat f n) q x ≡ references_seen_by p references q x
    referred q x = elim (cases_eq q seat) [
      | inl e ↦
          ap (λ (k : ℕ). references_seen_by p (changed references seat f n) k x) e
          ∙ other_reference p (changed references seat f n) seat x ne other
          ∙ sym (other_reference p references seat x ne other)
          ∙ sym (ap (λ (k : ℕ). references_seen_by p references k x) e)
      | inr not_it ↦ ap (λ (r : ℕ → ℕ). cond (q == 0 || q == p) (r x) 0) (at_other references seat (with_at (references seat) f n) q not_it)
    ]
