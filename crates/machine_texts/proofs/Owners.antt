-- The path of a group that may be gone. Serves `group_of`.
use Rattle.std.proofs.Common.{◌≡◌, ℕ, Option, Some, None, List, refl}
use Rattle.std.specs.Prelude.{IsTrue}
use Rattle.group_tree.specs.declared.group.Group.{Group}
use Rattle.group_tree.specs.Groups.{has_group, path_of}
use Rattle.group_tree.proofs.CallerLemmas.{has_group-path}

-- no group has the number, so none has a path by it
pub no_group : (groups : List Group) (n : ℕ) → (IsTrue (has_group groups n) → ⊥) → path_of groups n ≡ None
no_group groups n none = go (path_of groups n) refl
  where
    go : (path : Option (List ℕ)) → path_of groups n ≡ path → path_of groups n ≡ None
    go None is = is
    go (Some path) is = absurd (none (has_group-path groups n path is))
