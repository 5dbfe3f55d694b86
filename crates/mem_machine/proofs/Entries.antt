-- An entry of a table that is read, or changed, by the number of a group. Serves the calls that change the sums and counts of
-- a group.
use Rattle.std.proofs.Common.{◌≡◌, ℕ, ◌<◌, ◌≤◌, List, length, get_or, ap, ◌∙◌, inl, inr, arith}
use Rattle.std.specs.Prelude.{slice_set}
use Rattle.std.proofs.lemmas.Bool.{cases_lt}
use Rattle.std.proofs.lemmas.List.{get_or_default, get_or_past}

-- a table with some pages of a group has an entry for it
pub has_entry : (entries : List ℕ) (g : ℕ) → 1 ≤ get_or entries g 0 → g < length entries
has_entry entries g some = elim (cases_lt g (length entries)) [
  | inl inside ↦ inside
  | inr past ↦ let none = get_or_past entries g 0 past in absurd (omega (arith, none, some))
]

-- the entry that was read is the group's
pub entry_read : (entries : List ℕ) (i g x : ℕ) → i ≡ g → g < length entries → x ≡ get_or entries i x → x ≡ get_or entries g 0
entry_read entries i g x is inside read =
    read ∙ get_or_default entries i x 0 (omega (arith, is, inside)) ∙ ap (λ (k : ℕ). get_or entries k 0) is

-- the entry that is written is the group's
pub entry_set : (change : ℕ → ℕ) (entries : List ℕ) (i g x : ℕ) → i ≡ g → g < length entries → x ≡ get_or entries i x
    → slice_set entries i (change x) ≡ slice_set entries g (change (get_or entries g 0))
entry_set change entries i g x is inside read = λ j. slice_set entries (is j) (change (entry_read entries i g x is inside read j))
