-- The units that are shown are those of a group that is there. Serves `units`.
use Rattle.std.proofs.Common.{◌≡◌, ℕ, Bool, true, false, List, Ok, Some, None, refl, sym, subst}
use Rattle.std.specs.Prelude.{Option, Result}
use Rattle.boot_words.specs.Tables.{KnownTable}
use Rattle.mem_machine.specs.Machines.{KnownMachine}
use Rattle.mem_system.specs.Shown.{UnitsAt}

-- there is a group, and more is said of the text of its units
pub units_shown : (t : KnownTable) (group : Option ℕ) (none : Type 0) (says other : List ℕ → Type 0) (m n : KnownMachine) → (none → ⊥)
    → ((shown : List ℕ) → says shown → other shown) → UnitsAt t group none says m n → UnitsAt t group ⊥ other m n
units_shown t None none says other m n absent more is = absurd (absent is.0)
units_shown t (Some group) none says other m n absent more is = record { pins = is.pins; looks = is.looks; told = more _ is.told; same = is.same }

-- no text says that a group is there, so there is none, and nothing was looked at
pub units_missing : (t : KnownTable) (group : Option ℕ) (none : Type 0) (says : List ℕ → Type 0) (m n : KnownMachine) → ((shown : List ℕ) → says shown → ⊥)
    → UnitsAt t group none says m n → (group ≡ None) × (n ≡ m)
units_missing t None none says m n not is = (refl, is.1)
units_missing t (Some group) none says m n not is = absurd (not _ is.told)

module _ {E : Type 0} where
  abbrev SaysThere : Result Bool E → Type 0
  SaysThere (Ok true) = Unit {0}
  SaysThere other = ⊥

  abbrev read : Bool → Result Bool E
  read is_there = Ok is_there

  -- a group that is there isn't missing
  pub there_is : (is_there : Bool) → is_there ≡ true → read is_there ≡ read false → ⊥
  there_is is_there there missing = subst SaysThere missing (subst (λ (b : Bool). SaysThere (read b)) (sym there) tt)
