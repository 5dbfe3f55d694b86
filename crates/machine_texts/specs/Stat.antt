-- What memory.stat counts: the pages of kept units (cgroup-v2.rst, memory.stat).
use Rattle.std.specs.Prelude.{ℕ, ◌+◌, ◌^◌, ◌||◌, not, Bool, true, false, if◌then◌else◌, sum_by}
use Rattle.std.specs.Option.{option_map_or}
use Rattle.group_tree.specs.declared.group.Group.{Group}
use Rattle.group_tree.specs.Groups.{in_subtree}
use Rattle.lru_lists.specs.declared.record.Entry.{Entry}
use Rattle.lru_lists.specs.declared.record.LruList.{LruList}
use Rattle.lru_lists.specs.declared.record.LruList.TheVariants.{Inactive, Active}
use Rattle.control_files.specs.declared.stat.MemoryStat.{MemoryStat}
use Rattle.mem_machine.specs.{frame_state_at, headed_unit, KnownMachine, entries_in}

-- the pages of the unit that the frame heads
abbrev pub pages_at : KnownMachine → ℕ → ℕ
pages_at machine head =
    option_map_or (λ unit. 2 ^ unit.order) (headed_unit (frame_state_at machine.frame_states head)) 0

-- the unit of this entry is counted: each is, or only a dirty one
abbrev pub is_counted : (only_dirty : Bool) → Entry → Bool
is_counted only_dirty entry = entry.is_dirty || not only_dirty

-- the pages of the unit of this entry, if it is counted
abbrev pub counted_pages : KnownMachine → (only_dirty : Bool) → Entry → ℕ
counted_pages machine only_dirty entry =
    if is_counted only_dirty entry then pages_at machine entry.number else 0

-- the pages on this list of the group itself: all, or those of dirty units
abbrev pub pages_on : KnownMachine → LruList → (only_dirty : Bool) → (group : ℕ) → ℕ
pages_on machine list only_dirty group = sum_by (counted_pages machine only_dirty) (entries_in machine group list)

-- the pages on this list of the other group, if that is the group or below it
abbrev pub pages_shared : KnownMachine → LruList → (only_dirty : Bool) → (group other : ℕ) → ℕ
pages_shared machine list only_dirty group other =
    if in_subtree machine.ledger.groups group other then pages_on machine list only_dirty other else 0

-- the pages on this list of the group and of each group below it
abbrev pub pages_below : KnownMachine → LruList → (only_dirty : Bool) → (group : ℕ) → ℕ
pages_below machine list only_dirty group =
    sum_by (λ (row : Group). pages_shared machine list only_dirty group row.number) machine.ledger.groups

-- What memory.stat shows of the group, in pages: the inactive kept units of the group and of those below it, the active
-- ones, and the dirty ones of both
abbrev pub memory_stat : KnownMachine → (group : ℕ) → MemoryStat
memory_stat machine group = record {
  inactive = pages_below machine Inactive false group;
  active = pages_below machine Active false group;
  dirty = pages_below machine Inactive true group + pages_below machine Active true group;
}
