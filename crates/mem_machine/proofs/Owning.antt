-- The groups of stocks after one stock was filled. Serves `fill_stock` and the calls that drain.
use Rattle.std.proofs.Common.{◌≡◌, ℕ, ◌+◌, ◌-◌, ◌≤◌, Option, Some, None, List, get_or, set}
use Rattle.std.proofs.Common.{sym, ap, ◌∙◌, inl, inr, arith, length-set}
use Rattle.std.proofs.lemmas.Bool.{cases_eq}
use Rattle.std.proofs.lemmas.List.{get_or-set_other, get_or-set_same}
use Rattle.step_rules.specs.State.{Part, with_at}
use Rattle.step_rules.proofs.Basics.{at_other, at_same}
use Rattle.mem_machine.specs.{AreOwners}

-- ---- beside the parts of all CPUs

-- parts with the same groups
pub owners_same : (cpus : ℕ) (a b : ℕ → Part) → ((p : ℕ) → (b p).stock.group ≡ (a p).stock.group) → (owners : List (Option ℕ)) → AreOwners cpus a owners → AreOwners cpus b owners
owners_same cpus a b same owners are = record { size = are.size; few = are.few; each = λ place low. are.each place low ∙ sym (same (place + 1)); beyond = are.beyond }

-- one stock is of this group now
pub owners_set : (cpus : ℕ) (parts : ℕ → Part) (owners : List (Option ℕ)) → AreOwners cpus parts owners → (q : ℕ) (new : Part) (g : ℕ) → 1 ≤ q → q ≤ cpus → new.stock.group ≡ Some g
    → AreOwners cpus (with_at parts q new) (set owners (q - 1) (Some g))
owners_set cpus parts owners are q new g some inside group = record {
  size = length-set owners (q - 1) (Some g) ∙ are.size;
  few = are.few;
  each = λ p low. elim (cases_eq p (q - 1)) [
    | inl e ↦
        let next : p + 1 ≡ q = omega (arith, e, some) in
        let here = get_or-set_same owners (q - 1) (Some g) None (let a = are.size in let c = are.few in omega (arith, a, c, some, inside)) in
        ap (λ (k : ℕ). get_or (set owners (q - 1) (Some g)) k None) e ∙ here
        ∙ sym (ap (λ (k : ℕ). (with_at parts q new k).stock.group) next ∙ ap (λ (x : Part). x.stock.group) (at_same parts q new) ∙ group)
    | inr ne ↦
        get_or-set_other owners (q - 1) p (Some g) None ne ∙ are.each p low
        ∙ sym (ap (λ (x : Part). x.stock.group) (at_other parts q new (p + 1) (λ e. ne (omega (arith, e)))))
  ];
  beyond = λ p past. get_or-set_other owners (q - 1) p (Some g) None (λ e. absurd (omega (arith, e, past, some, inside))) ∙ are.beyond p past;
}

-- the group of a CPU's stock
pub owner_at : (cpus : ℕ) (parts : ℕ → Part) (owners : List (Option ℕ)) → AreOwners cpus parts owners → (q : ℕ) → 1 ≤ q → q ≤ cpus
    → (parts q).stock.group ≡ get_or owners (q - 1) None
owner_at cpus parts owners are q some inside =
    let next : q - 1 + 1 ≡ q = omega (arith, some) in
    ap (λ (k : ℕ). (parts k).stock.group) (sym next) ∙ sym (are.each (q - 1) (omega (arith, some, inside)))
