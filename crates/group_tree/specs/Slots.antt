-- What a tree keeps by number, beside its rows: whether a group has the number, and that group's parent, depth and
-- limit.
use Rattle.std.specs.Prelude.{◌≡◌, ℕ, false, None, List, length, Contains}
use Rattle.std.specs.List.{slice_index_or}
use Rattle.group_tree.specs.declared.group.Group.{Group}
use Rattle.group_tree.specs.declared.tree.Slot.{Slot}
use Rattle.group_tree.specs.Path.{depth_of, parent_path}
use Rattle.group_tree.specs.Groups.{has_group, room_of}

-- the slot of a number that no group has
abbrev pub free_slot : Slot
free_slot = record { is_there = false; parent = 0; depth = 0; limit = None }

-- the slot of the group of this number
abbrev pub slot_at : List Slot → ℕ → Slot
slot_at slots g = slice_index_or slots g free_slot

-- Each slot says whether a group has the number. A group's slot has its parent's number (the root's has its own), the
-- number of names in its path, and its limit.
pub record AreSlots (groups : List Group) (slots : List Slot) : Type 0 where
  pub size : length slots ≡ room_of groups
  pub there : (n : ℕ) → (slot_at slots n).is_there ≡ has_group groups n
  pub parents : (x y : Group) → Contains groups x → Contains groups y → y.path ≡ parent_path x.path
      → (slot_at slots x.number).parent ≡ y.number
  pub depths : (x : Group) → Contains groups x → (slot_at slots x.number).depth ≡ depth_of x.path
  pub limits : (x : Group) → Contains groups x → (slot_at slots x.number).limit ≡ x.limit
