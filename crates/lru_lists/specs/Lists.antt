-- The two lists of an owner, as a contract sees them.
use Rattle.std.specs.Prelude.{◌≡◌, ◌≢◌, ℕ, ◌+◌, ◌-◌, ◌<◌, ◌≤◌, ◌==◌, Bool, true, false, Option, Some, None, List, []}
use Rattle.std.specs.Prelude.{◌∷◌, ◌++◌, length, map, take, drop, slice_index_or, slice_set, if◌then◌else◌}
use Rattle.lru_lists.specs.declared.record.Link.{Link}
use Rattle.lru_lists.specs.declared.record.Home.{Home}
use Rattle.lru_lists.specs.declared.record.Entry.{Entry}
use Rattle.lru_lists.specs.declared.record.LruList.{LruList}
use Rattle.lru_lists.specs.declared.record.LruList.TheVariants.{Inactive, Active}
use Rattle.lru_lists.specs.declared.lru.Lru.{Lru}
use Rattle.lru_lists.specs.declared.lru.Touched.{Touched}
use Rattle.lru_lists.specs.declared.lru.Touched.TheVariants as touched
use Rattle.lru_lists.specs.declared.queue.Queue.{Queue}
use Rattle.lru_lists.specs.Queue.{link_at, units_of, IsLinked}

-- what the record of a unit on one of the lists says of its place: the owner, and which list
abbrev pub home_in : Lru → LruList → Home
home_in lru list = record { owner = lru.owner; list = list }

-- a unit as an entry of a list: its number, whether it is marked, whether it is dirty
abbrev pub entry_of : List Link → ℕ → Entry
entry_of links f = record { number = f; is_marked = (link_at links f).is_marked; is_dirty = (link_at links f).is_dirty }

-- the ends and the length of one of the lists
abbrev pub queue_of : Lru → LruList → Queue
queue_of lru Inactive = lru.inactive
queue_of lru Active = lru.active

-- one of the lists, from the oldest unit to the newest
abbrev pub entries_of : List Link → Lru → LruList → List Entry
entries_of links lru list = map (entry_of links) (units_of links (queue_of lru list))

-- the inactive list, from the oldest unit to the newest
abbrev pub inactive_of : List Link → Lru → List Entry
inactive_of links lru = entries_of links lru Inactive

-- the active list, from the oldest unit to the newest
abbrev pub active_of : List Link → Lru → List Entry
active_of links lru = entries_of links lru Active

-- both lists are linked through these records
abbrev pub AreLinked : List Link → Lru → Type 0
AreLinked links lru = (list : LruList)
    → IsLinked links (home_in lru list) (queue_of lru list) (units_of links (queue_of lru list))

-- the owner's lists, one of them with these ends and this length
abbrev pub with_queue : Lru → LruList → Queue → Lru
with_queue lru Inactive q = record lru { inactive = q }
with_queue lru Active q = record lru { active = q }

-- the list of this owner at a home; None if the home is no list or another owner's
abbrev pub list_at : Option Home → ℕ → Option LruList
list_at None owner = None
list_at (Some h) owner = if h.owner == owner then Some h.list else None

-- the list of the owner that holds the frame; None if none of them does
abbrev pub list_of : List Link → ℕ → ℕ → Option LruList
list_of links owner f = list_at (link_at links f).home owner

-- no list of any owner holds the frame
abbrev pub IsOnNone : List Link → ℕ → Type 0
IsOnNone links f = (link_at links f).home ≡ None

-- no list of this owner holds a frame
abbrev pub HasNoUnits : List Link → ℕ → Type 0
HasNoUnits links owner = (f : ℕ) → list_of links owner f ≡ None

-- What a change of an owner's lists does to the records. A frame on none of these lists before and after keeps its
-- record. A frame that joined them was on no list. A frame that left them is on no list.
pub record ChangesOwn (before after : List Link) (owner : ℕ) : Type 0 where
  pub frames : length after ≡ length before
  pub kept : (f : ℕ) → list_of before owner f ≡ None → list_of after owner f ≡ None → link_at after f ≡ link_at before f
  pub joined : (f : ℕ) → list_of before owner f ≡ None → list_of after owner f ≢ None → IsOnNone before f
  pub left : (f : ℕ) → list_of before owner f ≢ None → list_of after owner f ≡ None → IsOnNone after f

-- What a change of one unit of an owner does to the records. Every other frame stays on its list, if any, and keeps
-- its record unless it is on one of the owner's lists.
pub record MovesOnly (before after : List Link) (owner f : ℕ) : Type 0 where
  pub frames : length after ≡ length before
  pub home : (g : ℕ) → g ≢ f → (link_at after g).home ≡ (link_at before g).home
  pub kept : (g : ℕ) → g ≢ f → list_of before owner g ≡ None → link_at after g ≡ link_at before g

-- the owner of the list, if there is a list
abbrev pub owner_of : Option Home → Option ℕ
owner_of None = None
owner_of (Some h) = Some h.owner

-- every frame is on a list of the same owner as before, or on none as before, and is as dirty as it was
pub record SameOwners (before after : List Link) : Type 0 where
  pub owner : (f : ℕ) → owner_of (link_at after f).home ≡ owner_of (link_at before f).home
  pub dirty : (f : ℕ) → (link_at after f).is_dirty ≡ (link_at before f).is_dirty

-- the entries without that of the unit of this number
abbrev pub entries_without : ℕ → List Entry → List Entry
entries_without f [] = []
entries_without f (e ∷ es) = if e.number == f then es else e ∷ entries_without f es

-- the entry with this mark
abbrev pub marked : Bool → Entry → Entry
marked m e = record e { is_marked = m }

-- the entry with this dirt
abbrev pub dirtied : Bool → Entry → Entry
dirtied d e = record e { is_dirty = d }

-- the entries with that of the unit of this number changed by `change`
abbrev pub changed_at : ℕ → (Entry → Entry) → List Entry → List Entry
changed_at f change entries = map (λ e. if e.number == f then change e else e) entries

-- a touch marks the unit and doesn't move it: the unit is on the inactive list and isn't marked
abbrev pub is_marked_by_touch : Option LruList → Bool → Bool
is_marked_by_touch (Some Inactive) false = true
is_marked_by_touch list mark = false

-- A touch marks an unmarked unit on the inactive list. It moves a marked one, and any on the active list, to the
-- newest end of the active list, unmarked.
abbrev pub Touches : List Link → Lru → ℕ → Touched → List Link → Lru → Type 0
Touches before old f touched.Marked after new =
    (list_of before old.owner f ≡ Some Inactive) × ((link_at before f).is_marked ≡ false)
    × (inactive_of after new ≡ changed_at f (marked true) (inactive_of before old))
    × (active_of after new ≡ active_of before old)
Touches before old f touched.Active after new =
    (list_of before old.owner f ≡ Some Inactive → (link_at before f).is_marked ≡ true)
    × (inactive_of after new ≡ entries_without f (inactive_of before old))
    × (active_of after new ≡ entries_without f (active_of before old) ++ marked false (entry_of before f) ∷ [])

-- the owner's lists together hold the same units, and the records of all other frames stay
pub record KeepsUnits (before after : List Link) (owner : ℕ) : Type 0 where
  pub frames : length after ≡ length before
  pub others : (f : ℕ) → list_of before owner f ≡ None → link_at after f ≡ link_at before f
  pub units : (f : ℕ) → list_of before owner f ≢ None → list_of after owner f ≢ None

-- the first entry of a list; None if the list is empty
abbrev pub first_entry : List Entry → Option Entry
first_entry [] = None
first_entry (e ∷ es) = Some e

-- the entry just after the unit of this number
abbrev pub entry_after : ℕ → List Entry → Option Entry
entry_after f [] = None
entry_after f (e ∷ es) = if e.number == f then first_entry es else entry_after f es

-- The oldest units of the active list move to the newest end of the inactive list, unmarked. They are as few as leave
-- the active list no longer than the inactive one.
pub record Ages (before : List Link) (old : Lru) (after : List Link) (new : Lru) : Type 0 where
  pub moved : ℕ
  pub inactive : inactive_of after new
      ≡ inactive_of before old ++ map (marked false) (take moved (active_of before old))
  pub active : active_of after new ≡ drop moved (active_of before old)
  pub enough : length (active_of after new) ≤ length (inactive_of after new)
  pub fewest : (k : ℕ) → k < moved → length (inactive_of before old) + k < length (active_of before old) - k

-- the lists of every other owner stay linked, with the same units, marks and dirt
abbrev pub OthersStayLinked : Type 0
OthersStayLinked = (before after : List Link) (owner : ℕ) (other : Lru) → ChangesOwn before after owner
    → other.owner ≢ owner
    → AreLinked before other
    → AreLinked after other × ((list : LruList) → entries_of after other list ≡ entries_of before other list)

-- the lists of several owners, numbered from 0 in this order, are all linked through these records
abbrev pub AllLinked : List Link → List Lru → Type 0
AllLinked links lists = (k : ℕ) (any : Lru) → k < length lists
    → ((slice_index_or lists k any).owner ≡ k) × AreLinked links (slice_index_or lists k any)

-- if the lists of several owners are linked and those of one owner change, then all of them are linked afterwards
abbrev pub OneOfAllChanges : Type 0
OneOfAllChanges = (before after : List Link) (lists : List Lru) (new : Lru) → AllLinked before lists
    → new.owner < length lists
    → AreLinked after new → ChangesOwn before after new.owner → AllLinked after (slice_set lists new.owner new)
