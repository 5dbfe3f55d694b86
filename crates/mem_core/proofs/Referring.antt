-- One seat's references on one frame change (for `Rows::set_references`).
use Rattle.std.proofs.Common.{◌≡◌, ℕ, ◌<◌, Some, length, get_or, set, sym, ◌∙◌, ap}
use Rattle.std.specs.List.{slice_get}
use Rattle.step_rules.specs.State.{State, with_at}
use Rattle.step_rules.specs.After.{with_references}
use Rattle.step_rules.proofs.Basics.{at_itself, at_through}
use Rattle.mem_core.specs.declared.seat.SeatRow.{SeatRow}
use Rattle.mem_core.specs.declared.rows.Rows.{Rows}
use Rattle.mem_core.specs.Rows.{part_in, part_in_row, reference_of, state_in}
use Rattle.mem_core.proofs.Changing.{got_set, looked_set, parts_set}
use Rattle.mem_core.proofs.Looking.{got}

pub references_change : (r : Rows) (k : ℕ) (old s : SeatRow) (f n : ℕ) → k < length r.seats.items → old ≡ get_or r.seats.items k old
    → part_in s ≡ part_in old → f < length old.references → s.references ≡ set old.references f n →
    ◌≡◌ {A = State} (record (state_in r) {
      references = λ m f. reference_of (slice_get (set r.seats.items k s) m) f;
      parts =
          λ p. part_in_row (slice_get (set r.seats.items k s) p);
    }) (with_references (state_in r) k f n)
references_change r k old s f n below read part there new =
    let xs = r.seats.items in
    let is : slice_get xs k ≡ Some old = got xs k old below read in
    let row : reference_of (Some s) ≡ with_at (reference_of (slice_get xs k)) f n =
    (λ i. λ m. get_or (new i) m 0) ∙ looked_set old.references 0 f n there ∙ ap (λ o. with_at (reference_of o) f n) (sym is) in
    let refs : (λ (m : ℕ). reference_of (slice_get (set xs k s) m)) ≡ with_at (λ m. reference_of (slice_get xs m)) k
    (with_at (reference_of (slice_get xs k)) f n) = (λ i. λ m. reference_of (got_set xs k s below i m))
    ∙ at_through reference_of (slice_get xs) k (Some s) ∙ ap (with_at (λ m. reference_of (slice_get xs m)) k) row in
    let parts = parts_set xs k s below ∙ ap (with_at (λ p. part_in_row (slice_get xs p)) k) (part ∙ ap part_in_row (sym is))
    ∙ at_itself (λ p. part_in_row (slice_get xs p)) k in
    λ i. record (state_in r) { references = refs i; parts = parts i }
