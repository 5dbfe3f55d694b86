-- The numbers of groups, as hosts pass them.
use Rattle.std.specs.Prelude.{◌≡◌, ℕ, List, false}
use Rattle.group_tree.specs.{has_group}
use Rattle.group_tree.specs.declared.group.Group.{Group}

-- no group has this number
abbrev pub IsMissingIn : List Group → ℕ → Type 0
IsMissingIn groups number = has_group groups number ≡ false
