-- Groups that can be removed.
use Rattle.std.specs.Prelude.{◌≡◌, ◌≢◌, ℕ, true, false, List}
use Rattle.group_tree.specs.declared.group.Group.{Group}
use Rattle.group_tree.specs.Groups.{has_child}
use Rattle.group_tree.specs.declared.fault.Fault.{Fault}
use Rattle.group_tree.specs.declared.fault.Fault.TheVariants.{BadName, HasChildren}

-- the group isn't the root, and has no child
abbrev pub IsLeaf : List Group → (group : ℕ) → Type 0
IsLeaf groups group = (group ≢ 0) × (has_child groups group ≡ false)

-- why the group can't be removed: it is the root, or it has a child
abbrev pub IsNoLeaf : List Group → (group : ℕ) → Fault → Type 0
IsNoLeaf groups group BadName = group ≡ 0
IsNoLeaf groups group HasChildren = (group ≢ 0) × (has_child groups group ≡ true)
IsNoLeaf groups group fault = ⊥
