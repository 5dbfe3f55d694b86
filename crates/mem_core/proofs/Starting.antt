-- Rows on which no step was made show the state at boot (for `Rows::new`).
use Rattle.std.proofs.Common.{◌≡◌, ℕ, Option, Some, None, List, get_or, replicate, refl, ◌∙◌, ap, subst, arith, inl, inr}
use Rattle.std.specs.Prelude.{All}
use Rattle.std.specs.List.{slice_get}
use Rattle.std.proofs.lemmas.Bool.{cases_lt}
use Rattle.std.proofs.lemmas.List.{get_or-replicate, length-replicate}
use Rattle.std.proofs.lemmas.Option.{slice_get_within, get_or_from_slice_get}
use Rattle.step_rules.specs.State.{no_part}
use Rattle.mem_core.specs.declared.seat.SeatRow.{SeatRow}
use Rattle.mem_core.specs.{part_in_row, reference_of, IsNewSeat}
use Rattle.mem_core.proofs.Looking.{past_default}

pub replicate_all : {X : Type 0} (n : ℕ) (x : X) (k : ℕ) → get_or (replicate n x) k x ≡ x
replicate_all n x k =
    elim (cases_lt k n) [
      | inl below ↦ get_or-replicate n k x x below
      | inr past ↦ let len = length-replicate n x in past_default (replicate n x) k x (omega arith)
    ]

found : (o : Option SeatRow) (xs : List SeatRow) (k : ℕ) → slice_get xs k ≡ o → (P : Option SeatRow → Type 0) → P None
    → ((s : SeatRow) → slice_get xs k ≡ Some s → P (Some s)) → P o
found None xs k e P none some = none
found (Some s) xs k e P none some = some s e

new_at : (frames : ℕ) (xs : List SeatRow) (k : ℕ) (s : SeatRow) → All (IsNewSeat frames) xs → slice_get xs k ≡ Some s → IsNewSeat frames s
new_at frames xs k s all e = subst (IsNewSeat frames) (get_or_from_slice_get xs k s s e) (all k s (slice_get_within xs k s e))

pub new_part : (frames : ℕ) (xs : List SeatRow) (k : ℕ) → All (IsNewSeat frames) xs → part_in_row (slice_get xs k) ≡ no_part
new_part frames xs k all = found (slice_get xs k) xs k refl (λ o. part_in_row o ≡ no_part) refl (λ s e. (new_at frames xs k s all e).part)

pub new_reference : (frames : ℕ) (xs : List SeatRow) (k f : ℕ) → All (IsNewSeat frames) xs → reference_of (slice_get xs k) f ≡ 0
new_reference frames xs k f all =
    found (slice_get xs k) xs k refl (λ o. reference_of o f ≡ 0) refl
    (λ s e. ap (λ l. get_or l f 0) (new_at frames xs k s all e).references ∙ replicate_all frames 0 f)
