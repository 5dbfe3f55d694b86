-- What a core shows is what its rows show (for `Core::new`, `Core::step`, the readers and `Checker`).
use Rattle.std.proofs.Common.{◌≡◌, ℕ, ◌^◌, ◌≤◌, List, [], ◌∷◌, zero, suc, map, refl, ap, arith}
use Rattle.std.specs.List.{slice_get}
use Rattle.std.proofs.lemmas.Option.{slice_get_past}
use Rattle.zone_blocks.specs.declared.block.Block.{Block}
use Rattle.step_rules.specs.Invariant.{KeepsInvariant}
use Rattle.mem_core.specs.declared.seat.SeatRow.{SeatRow}
use Rattle.mem_core.specs.declared.rows.Rows.{Rows}
use Rattle.mem_core.specs.Rows.{part_in_row, reference_of}
use Rattle.mem_core.specs.Rows as rows
use Rattle.mem_core.specs.{FitsZone, IsBelowBounds, IsBounded, reference_at, part_of_seat, state_shown, seat_shown, rows_shown, core_state}
use Rattle.mem_core.proofs.Looking.{past_default}
use Rattle.mem_core.proofs.Bounding.{few_from}
use Rattle.mem_core.specs.declared.reading_core.Core.TheInside.{Inside}
use Rattle.mem_core.specs.Accounts.{Account}

seat_found : (xs : List SeatRow) (k f : ℕ)
    → (reference_at (slice_get (map seat_shown xs) k) f ≡ reference_of (slice_get xs k) f) ×
    (part_of_seat (slice_get (map seat_shown xs) k) ≡ part_in_row (slice_get xs k))
seat_found [] k f = (refl, refl)
seat_found (x ∷ xs) zero f = (refl, refl)
seat_found (x ∷ xs) (suc k) f = seat_found xs k f

pub rows_are : (r : Rows) (accounts : List Account) (areas : List Block) (steps : ℕ) → state_shown (rows_shown r accounts areas steps) ≡ rows.state_in r
rows_are r accounts areas steps = λ i. record (rows.state_in r) {
  references = λ seat f. (seat_found r.seats.items seat f).0 i;
  parts = λ p. (seat_found r.seats.items p 0).1 i;
}

pub shown_is : (c : Inside) → state_shown (core_state c) ≡ rows.state_in c.rows
shown_is c = rows_are c.rows c.accounts.items c.areas.blocks c.steps

-- rows that are sound and bounded are ready for a step
pub ready : (r : Rows) (n : ℕ) → n ≤ 2 ^ 96 → FitsZone r → KeepsInvariant (rows.state_in r) → IsBounded n (rows.state_in r) → IsBelowBounds (rows.state_in r)
ready r n small fits sound bounded =
    few_from n (rows.state_in r) small
    (λ p beyond. ap (λ o. (part_in_row o).book) (slice_get_past r.seats.items p (omega (arith, r.seats.ok.0, fits.seats, beyond))))
    (λ g past. past_default r.pending.items g 0 (omega (arith, r.pending.ok.0, fits.pending, past)))
    sound bounded
