-- A search through a table, row by row.
use Rattle.std.proofs.Common.{◌≡◌, ℕ, suc, ◌+◌, ◌<◌, ◌≤◌, true, false, List, Option, Some, None, Bor, bytes_eq, map, drop, length, get_or, slice_index_or, arith, refl, sym, ap}
use Rattle.std.proofs.Math.Seq.{drop-cons}
use Rattle.std.proofs.Math.ListN.{drop_of_length-le}
use Rattle.std.specs.Map.{lookup}

-- the rows of a table, each a name and what it names
abbrev pub rows_of : {T : Type 0} → List (Bor (List ℕ) × T) → List (List ℕ × T)
rows_of names = map (λ row. (row.0.now, row.1)) names

-- what is found from a row on
abbrev pub found_from : {T : Type 0} → List ℕ → List (Bor (List ℕ) × T) → ℕ → Option T
found_from word names i = lookup (λ name. bytes_eq name word) (rows_of (drop i names))

-- the row has the name
pub here : {T : Type 0} (word : List ℕ) (names : List (Bor (List ℕ) × T)) (i : ℕ) (row : Bor (List ℕ) × T) → i < length names
    → row ≡ slice_index_or names i row → bytes_eq row.0.now word ≡ true → found_from word names i ≡ Some row.1
here word names i row lt is same =
    let item : get_or names i row ≡ row = sym is in
    rw (drop-cons names i row lt, item, same) refl

-- the row has another name
pub further : {T : Type 0} (word : List ℕ) (names : List (Bor (List ℕ) × T)) (i : ℕ) (row : Bor (List ℕ) × T) → i < length names
    → row ≡ slice_index_or names i row → bytes_eq row.0.now word ≡ false → found_from word names i ≡ found_from word names (i + 1)
further word names i row lt is other =
    let item : get_or names i row ≡ row = sym is in
    let next : suc i ≡ i + 1 = omega arith in
    rw (drop-cons names i row lt, item, other) (ap (found_from word names) next)

-- after the last row nothing is found
pub nowhere : {T : Type 0} (word : List ℕ) (names : List (Bor (List ℕ) × T)) (i : ℕ) → length names ≤ i → found_from word names i ≡ None
nowhere word names i le = rw (drop_of_length-le names le) refl
