-- A list with one value changed shows the function with that value changed.
use Rattle.std.proofs.Common.{◌≡◌, ℕ, ◌<◌, Some, List, length, get_or, set, sym, ◌∙◌, ap, arith, inl, inr}
use Rattle.std.specs.List.{slice_get}
use Rattle.std.proofs.lemmas.Bool.{cases_lt}
use Rattle.std.proofs.lemmas.List.{get_or-set_same, get_or-set_other, length-set}
use Rattle.std.proofs.lemmas.Option.{slice_get_past, slice_get-get_or}
use Rattle.step_rules.specs.State.{with_at}
use Rattle.step_rules.proofs.Basics.{at_each, at_through}
use Rattle.mem_core.specs.declared.seat.SeatRow.{SeatRow}
use Rattle.mem_core.specs.Rows.{part_in, part_in_row}

pub looked_set : {X : Type 0} (xs : List X) (d : X) (k : ℕ) (x : X) → k < length xs → (λ (m : ℕ). get_or (set xs k x) m d) ≡ with_at (λ m. get_or xs m d) k x
looked_set xs d k x below =
    λ i. λ m. at_each (λ m. get_or xs m d) k x (λ n y. get_or (set xs k x) n d
    ≡ y) (get_or-set_same xs k x d below) (λ n ne. get_or-set_other xs k n x d ne) m i

get_set_same : {X : Type 0} (xs : List X) (k : ℕ) (x : X) → k < length xs → slice_get (set xs k x) k ≡ Some x
get_set_same xs k x below = slice_get-get_or (set xs k x) k x (let e = length-set xs k x in omega arith) ∙ ap Some (get_or-set_same xs k x x below)

get_set_other : {X : Type 0} (xs : List X) (k m : ℕ) (x : X) → (m ≡ k → ⊥) → slice_get (set xs k x) m ≡ slice_get xs m
get_set_other xs k m x ne =
    let e = length-set xs k x in
    elim (cases_lt m (length xs)) [
      | inl below ↦ slice_get-get_or (set xs k x) m x (omega arith) ∙ ap Some (get_or-set_other xs k m x x ne) ∙ sym (slice_get-get_or xs m x below)
      | inr past ↦ slice_get_past (set xs k x) m (omega arith) ∙ sym (slice_get_past xs m past)
    ]

pub got_set : {X : Type 0} (xs : List X) (k : ℕ) (x : X) → k < length xs → (λ (m : ℕ). slice_get (set xs k x) m) ≡ with_at (slice_get xs) k (Some x)
got_set xs k x below =
    λ i. λ m. at_each (slice_get xs) k (Some x) (λ n y. slice_get (set xs k x) n ≡ y) (get_set_same xs k x below) (λ n ne. get_set_other xs k n x ne) m i

pub parts_set : (xs : List SeatRow) (k : ℕ) (s : SeatRow) → k < length xs
    → (λ (p : ℕ). part_in_row (slice_get (set xs k s) p)) ≡ with_at (λ p. part_in_row (slice_get xs p)) k (part_in s)
parts_set xs k s below = (λ i. λ p. part_in_row (got_set xs k s below i p)) ∙ at_through part_in_row (slice_get xs) k (Some s)
