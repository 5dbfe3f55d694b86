-- The records as they are stored.
use Rattle.std.specs.Prelude.{ℕ, ◌==◌, ◌<◌, ◌-◌, Bool, true, false, Option, Some, None, IfSome, List, map, if◌then◌else◌}
use Rattle.lru_lists.specs.declared.record.Link.{Link}
use Rattle.lru_lists.specs.declared.record.Home.{Home}
use Rattle.lru_lists.specs.declared.record.LruList.{LruList}
use Rattle.lru_lists.specs.declared.record.LruList.TheVariants.{Inactive, Active}
use Rattle.lru_lists.specs.declared.packed.OnList.{OnList}
use Rattle.lru_lists.specs.declared.packed.OnList.TheVariants as on_list
use Rattle.lru_lists.specs.declared.packed.Flags.{Flags}
use Rattle.lru_lists.specs.declared.packed.Flags.TheVariants.{Clean, Marked, Dirty, MarkedDirty}
use Rattle.lru_lists.specs.declared.packed.Packed.{Packed}

-- the neighbour for which a number is stored: 0 is stored for none, else one more than the neighbour
abbrev pub neighbour_of : ℕ → Option ℕ
neighbour_of n = if n == 0 then None else Some (n - 1)

-- a neighbour for which a number can be stored, or none
abbrev pub IsNumber : Option ℕ → Type 0
IsNumber unit = IfSome unit (λ u. u < 4294967295)

-- which of the two lists holds the unit; None for neither
abbrev pub list_on : OnList → Option LruList
list_on on_list.Neither = None
list_on on_list.Inactive = Some Inactive
list_on on_list.Active = Some Active

-- whether the unit was touched once since it joined the inactive list
abbrev pub is_marked_by : Flags → Bool
is_marked_by Clean = false
is_marked_by Marked = true
is_marked_by Dirty = false
is_marked_by MarkedDirty = true

-- whether the unit's pages are dirty
abbrev pub is_dirty_by : Flags → Bool
is_dirty_by Clean = false
is_dirty_by Marked = false
is_dirty_by Dirty = true
is_dirty_by MarkedDirty = true

-- the home of an owner's list, if there is one
abbrev pub home_of_list : Option LruList → ℕ → Option Home
home_of_list None owner = None
home_of_list (Some list) owner = Some (record { owner = owner; list = list })

-- the record that a packed one holds
abbrev pub link_of : Packed → Link
link_of p = record {
  home = home_of_list (list_on p.list) p.owner;
  older = neighbour_of p.older;
  newer = neighbour_of p.newer;
  is_marked = is_marked_by p.flags;
  is_dirty = is_dirty_by p.flags;
}

-- the records that packed ones hold
abbrev pub links_of : List Packed → List Link
links_of records = map link_of records
