-- Small ledgers that show what memory.min keeps from a reclaim for the limit of /a, and what it doesn't keep.
use Rattle.std.specs.Prelude.{ℕ, Some, List, [], ◌∷◌, map, codes}
use Rattle.group_tree.specs.declared.group.Group.{Group}
use Rattle.group_tree.specs.Groups.{new_row, the_root}
use Rattle.group_charge.specs.declared.account.Account.{Account}
use Rattle.group_charge.specs.Charges.{Ledger, empty_account, no_settings}
use Rattle.group_protection.specs.Protections.{IsKeptByMin}

-- the root, /a, /a/b with three children, and /a/f
abbrev pub small_tree : List Group
small_tree =
    the_root 6 ∷ new_row 1 (codes "/a") ∷ new_row 2 (codes "/a/b") ∷ new_row 3 (codes "/a/b/c") ∷ new_row 4 (codes "/a/b/d")
    ∷ new_row 5 (codes "/a/b/e") ∷ new_row 6 (codes "/a/f") ∷ []

-- the account of a group with this many pages of its own
abbrev pub account_with : (group pages : ℕ) → Account
account_with group pages = record (empty_account group) { pages = pages }

-- the tree with 30 pages of each child of /a/b and none of other groups, and with this memory.min of each group, by
-- number
abbrev pub with_min : List ℕ → Ledger
with_min mins = record {
  groups = small_tree;
  accounts = account_with 0 0 ∷ account_with 1 0 ∷ account_with 2 0 ∷ account_with 3 30 ∷ account_with 4 30
      ∷ account_with 5 30 ∷ account_with 6 0 ∷ [];
  settings = map (λ (pages : ℕ). record no_settings { min = Some pages }) mins;
}

-- memory.min keeps the group from a reclaim for /a, if no usage changes
abbrev pub IsKeptIn : Ledger → ℕ → Type 0
IsKeptIn ledger group = IsKeptByMin ledger ledger 1 group

-- What is kept: /a/b/c, if all that /a/b uses is protected. What isn't: /a/b/c, if /a/b protects 50 of its 90 pages;
-- if only /a/f has a memory.min, or only /a itself; a group without pages, if none has a memory.min.
pub record MinKeepsWhatItProtects : Type 0 where
  pub all : IsKeptIn (with_min (0 ∷ 0 ∷ 90 ∷ [])) 3
  pub too_few : ¬ IsKeptIn (with_min (0 ∷ 0 ∷ 50 ∷ [])) 3
  pub of_another : ¬ IsKeptIn (with_min (0 ∷ 0 ∷ 0 ∷ 0 ∷ 0 ∷ 0 ∷ 90 ∷ [])) 3
  pub of_the_limited : ¬ IsKeptIn (with_min (0 ∷ 90 ∷ [])) 3
  pub unset : ¬ IsKeptIn (with_min []) 6
