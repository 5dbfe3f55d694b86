-- One seat's pasts change: the facts of the others' pasts stay.
use Rattle.std.proofs.Common.{[], ◌≡◌, ℕ, zero, suc, ◌≤◌, List, ◌∷◌, set, ap, sym, arith}
use mathlib.Core.Option.{some, some-injective, some-ne-none}
use lib.ListN.{get_elem?}
use Rattle.boot_words.specs.declared.past.Past.{Past}
use Rattle.boot_words.specs.Rule.{AllOf, AllPasts, of_number, sum_over, total_over}
use Rattle.boot_words.proofs.Totals.{total_member, total_set}

-- the changed seat has all pasts that count, so a fact of the pasts that don't is kept
module _ (P Q : Past → Type 0) (weight : Past → ℕ) (each : (u : Past) → weight u ≡ 0 → P u → Q u) where
  pasts_else : (ps : List Past) → sum_over weight ps ≡ 0 → AllOf P ps → AllOf Q ps
  pasts_else [] none all = tt
  pasts_else (p ∷ ps) none all = (each p (omega arith) all.0, pasts_else ps (omega arith) all.1)

  seats_else : (seats : List (List Past)) → total_over weight seats ≡ 0 → AllPasts P seats → AllPasts Q seats
  seats_else [] none all = tt
  seats_else (ps ∷ rest) none all = (pasts_else ps (omega arith) all.0, seats_else rest (omega arith) all.1)

  pub seats_set : (seats : List (List Past)) (id : ℕ) (old new : List Past) → get_elem? seats id ≡ some old
      → total_over weight seats ≤ sum_over weight old → AllPasts P seats → AllOf Q new → AllPasts Q (set seats id new)
  seats_set [] id old new at whole all q = absurd (some-ne-none old (sym at))
  seats_set (ps ∷ rest) zero old new at whole all q =
      let m : sum_over weight ps ≡ sum_over weight old = ap (sum_over weight) (some-injective ps old at) in
      (q, seats_else rest (omega arith) all.1)
  seats_set (ps ∷ rest) (suc id) old new at whole all q =
      let m : sum_over weight old ≤ total_over weight rest = total_member weight rest id old at in
      (pasts_else ps (omega arith) all.0, seats_set rest id old new at (omega arith) all.1 q)

-- new pasts of the same numbers leave the count of each number
pub counts_same : (seats : List (List Past)) (id : ℕ) (old new : List Past) → get_elem? seats id ≡ some old
    → ((q : ℕ) → sum_over (of_number q) new ≡ sum_over (of_number q) old) → (q : ℕ) → total_over (of_number q) (set seats id new) ≡ total_over (of_number q) seats
counts_same seats id old new at same q =
    let t = total_set (of_number q) seats id old new at in
    let e = same q in omega (arith, t, e)
