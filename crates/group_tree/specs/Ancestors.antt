-- The walk from a group up to the root.
use Rattle.std.specs.Prelude.{◌≡◌, ℕ, zero, suc, ◌+◌, ◌&&◌, Bool, true, false, not, IsTrue, IfSome, Option, Some, None, List, [], ◌∷◌, slice_get}
use Rattle.std.specs.Option.{option_map_or}
use Rattle.group_tree.specs.declared.group.Group.{Group}
use Rattle.group_tree.specs.Path.{depth_of}
use Rattle.group_tree.specs.Groups.{has_group, in_subtree, path_of, parent_of, AreGroups}

-- how many names the group's path has: its depth below the root
abbrev pub depth_at : List Group → ℕ → ℕ
depth_at groups g = option_map_or (λ path. depth_of path) (path_of groups g) 0

-- the path begins with g, and each group's parent follows it; the root, which has no parent, is the last
pub record IsPathUp (groups : List Group) (g : ℕ) (path : List ℕ) : Type 0 where
  pub first : slice_get path 0 ≡ Some g
  pub rises : (k : ℕ) → IfSome (slice_get path k) (λ m. slice_get path (k + 1) ≡ parent_of groups m)

-- the group and the groups above it, at most this many of those
abbrev pub some_above : ℕ → List Group → ℕ → List ℕ
some_above zero groups g = g ∷ []
some_above (suc k) groups g = g ∷ option_map_or (some_above k groups) (parent_of groups g) []

-- the group, its parent, and so on up to the root: one group more than its path has names
unfoldable pub ancestors_of : List Group → ℕ → List ℕ
ancestors_of groups g = some_above (depth_at groups g) groups g

-- what is left of a walk whose next group is this one, if it has one
abbrev pub ancestors_from : List Group → Option ℕ → List ℕ
ancestors_from groups None = []
ancestors_from groups (Some g) = ancestors_of groups g

-- the group exists, if there is one
abbrev pub is_there : List Group → Option ℕ → Bool
is_there groups None = true
is_there groups (Some g) = has_group groups g

-- what holds of every walk
pub record IsWalk (groups : List Group) (next : Option ℕ) : Type 0 where
  pub groups_are : AreGroups groups
  pub there : IsTrue (is_there groups next)

-- ---- how far a walk has come
-- there is a group, and it is in the subtree of k
abbrev pub is_in_subtree : List Group → ℕ → Option ℕ → Bool
is_in_subtree groups k None = false
is_in_subtree groups k (Some m) = in_subtree groups k m

-- k is on the path of g, and the walk has passed it
abbrev pub is_passed : List Group → ℕ → Option ℕ → ℕ → Bool
is_passed groups g next k = in_subtree groups k g && not (is_in_subtree groups k next)
