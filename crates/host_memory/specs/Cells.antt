-- The rule of a cell with one word and one slot, and what a take returns.
use Rattle.std.specs.Prelude.{◌≡◌, ℕ, ◌∷◌, [], Option, Some, None, slice_index, length}
use mathlib.Core.Option.{none, some}
use lib.ListN.{get_elem?}
use Rattle.atomic_table.specs.Seated.{TableId}
use Rattle.atomic_table.specs.Table.{State, Me}

module _ {T V : Type 0} where
  -- the word is 0 exactly while the value is at home
  pub record IsGuarded (s : State (Option T) V) : Type 0 where
    pub one : length s.words ≡ 1
    pub home : slice_index s.words 0 ≡ 0 → (value : T) × (get_elem? s.homes 0 ≡ some (some (Some value)))
    pub out : ¬ (slice_index s.words 0 ≡ 0) → get_elem? s.homes 0 ≡ some none

module _ {T : Type 0} where
  -- the slot is out with this seat, which knows the value in it
  abbrev pub HasTaken : Me (Option T) (Option T × Option T) → Type 0
  HasTaken m = (value : T) × (m ≡ ((Some value, None), (0, Some value) ∷ []))

  -- a taking that found 0 has the slot
  abbrev pub Takes : ℕ → Me (Option T) (Option T × Option T) → Type 0
  Takes found m = found ≡ 0 → HasTaken m

  -- the slot is out with this seat, and nothing is in it
  abbrev pub HasEmptied : Me (Option T) (Option T × Option T) → Type 0
  HasEmptied m = m.1 ≡ (0, None) ∷ []

  -- The slot was out with this seat, and its value is at home now. The seat knows it, and what it took out before.
  abbrev pub Gives : (from to : Me (Option T) (Option T × Option T)) → Type 0
  Gives from to = (value : T) × (from.1 ≡ (0, Some value) ∷ []) × (to ≡ ((from.0.0, Some value), []))

-- the right to put a value back: into which cell, and the value that was taken out of it
pub record KnownLoan (T : Type 0) : Type 0 where
  pub table_id : TableId
  pub found : Option T

-- the value that was taken out of a cell, and the one that was put back for it
pub record KnownChange (T : Type 0) : Type 0 where
  pub found : Option T
  pub left : Option T
