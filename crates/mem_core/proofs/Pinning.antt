-- The references of a seat, summed.
use Rattle.std.proofs.Common.{◌≡◌, ℕ, ◌+◌, ◌*◌, ◌<◌, ◌≤◌, None, Some, List, length, get_or, set, refl, sym, ◌∙◌, ap, subst, arith, zero, suc}
use Rattle.std.specs.List.{slice_get}
use Rattle.std.proofs.lemmas.List.{length-set}
use Rattle.std.proofs.lemmas.Option.{slice_get_within, get_or_from_slice_get}
use Rattle.step_rules.specs.State.{pins_of, sum_to, with_at}
use Rattle.step_rules.proofs.Basics.{at_each}
use Rattle.step_rules.proofs.Sums.{sum_none, sum_part, sum_change}
use Rattle.mem_core.specs.declared.seat.SeatRow.{SeatRow}
use Rattle.mem_core.specs.declared.rows.Rows.{Rows}
use Rattle.mem_core.specs.{reference_of, state_in, FitsZone, SeatHasRoom, sum_of}
use Rattle.mem_core.proofs.Changing.{looked_set}

pub sum_times : (n x : ℕ) (h : ℕ → ℕ) → ((i : ℕ) → h i ≤ x) → sum_to n h ≤ n * x
unfolding sum_to
sum_times zero x h each = omega arith
sum_times (suc n) x h each = let a = sum_times n x h each in let b = each n in omega arith

-- one number changes
pub sum_set : (xs : List ℕ) (f x : ℕ) → f < length xs → sum_of (set xs f x) + get_or xs f 0 ≡ sum_of xs + x
sum_set xs f x here =
    let len = length-set xs f x in
    let e : sum_of (set xs f x) ≡ sum_to (length xs) (with_at (λ m. get_or xs m 0) f x) =
    (λ i. sum_to (len i) (looked_set xs 0 f x here i)) in
    let change = sum_change (length xs) (λ m. get_or xs m 0) f x here in
    omega arith

pub sum_has : (xs : List ℕ) (f : ℕ) → f < length xs → get_or xs f 0 ≤ sum_of xs
sum_has xs f here = sum_part (length xs) (λ m. get_or xs m 0) f here

pub each_set : (xs : List ℕ) (f x : ℕ) → f < length xs → x ≤ 255 → ((m : ℕ) → get_or xs m 0 ≤ 255) → (m : ℕ) → get_or (set xs f x) m 0 ≤ 255
each_set xs f x here few each m =
    subst (λ (y : ℕ). y ≤ 255) (sym (λ i. looked_set xs 0 f x here i m)) (at_each (λ m. get_or xs m 0) f x (λ m y. y ≤ 255) few (λ m ne. each m) m)

-- a seat's references are its pins
pub pins_are : (r : Rows) (seat : ℕ) (s : SeatRow) → FitsZone r → slice_get r.seats.items seat ≡ Some s → sum_of s.references ≡ pins_of (state_in r) seat
pins_are r seat s fits is =
    let xs = r.seats.items in
    let room : SeatHasRoom r.frames s = subst (SeatHasRoom r.frames) (get_or_from_slice_get xs seat s s is) (fits.rooms seat s (slice_get_within xs seat s is)) in
    ap (λ n. sum_to n (reference_of (Some s))) room.references ∙ sym (ap (λ o. sum_to r.frames (reference_of o)) is)

pub no_pins : (r : Rows) (seat : ℕ) → slice_get r.seats.items seat ≡ None → 0 ≡ pins_of (state_in r) seat
no_pins r seat none = sym (ap (λ o. sum_to r.frames (reference_of o)) none ∙ sum_none r.frames (λ f. 0) (λ f b. refl))
