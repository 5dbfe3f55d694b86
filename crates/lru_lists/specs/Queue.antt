-- One list, linked through the records of its units.
use Rattle.std.specs.Prelude.{◌≡◌, ℕ, zero, suc, ◌+◌, ◌-◌, ◌==◌, ◌||◌, ◌≢◌, Bool, true, false, Option, Some, None, List}
use Rattle.std.specs.Prelude.{[], ◌∷◌, length, slice_index_or, slice_set, if◌then◌else◌}
use Rattle.lru_lists.specs.declared.record.Link.{Link}
use Rattle.lru_lists.specs.declared.record.Home.{Home}
use Rattle.lru_lists.specs.declared.queue.Queue.{Queue}

-- the record of a frame on no list
abbrev pub nowhere : Link
nowhere = record { home = None; older = None; newer = None; is_marked = false; is_dirty = false }

-- the record of frame f; past the last frame, that of a frame on no list
abbrev pub link_at : List Link → ℕ → Link
link_at links f = slice_index_or links f nowhere

-- no frame is on a list
abbrev pub AreNowhere : List Link → Type 0
AreNowhere links = (f : ℕ) → link_at links f ≡ nowhere

-- the unit is in the list
abbrev pub is_among : List ℕ → ℕ → Bool
is_among [] f = false
is_among (x ∷ xs) f = x == f || is_among xs f

-- no unit is in the list twice
abbrev pub HasNoRepeats : List ℕ → Type 0
HasNoRepeats [] = Unit {0}
HasNoRepeats (x ∷ xs) = (is_among xs x ≡ false) × HasNoRepeats xs

-- the oldest unit of the list, which runs from the oldest to the newest
abbrev pub oldest_of : List ℕ → Option ℕ
oldest_of [] = None
oldest_of (x ∷ xs) = Some x

-- the newest unit of the list
abbrev pub newest_of : List ℕ → Option ℕ
newest_of [] = None
newest_of (x ∷ []) = Some x
newest_of (x ∷ y ∷ ys) = newest_of (y ∷ ys)

-- the unit just after f in the list
abbrev pub unit_behind : List ℕ → ℕ → Option ℕ
unit_behind [] f = None
unit_behind (x ∷ xs) f = if x == f then oldest_of xs else unit_behind xs f

-- the unit just before f in the list whose first unit is x
abbrev pub before_from : ℕ → List ℕ → ℕ → Option ℕ
before_from x [] f = None
before_from x (y ∷ ys) f = if y == f then Some x else before_from y ys f

-- the unit just before f in the list
abbrev pub unit_before : List ℕ → ℕ → Option ℕ
unit_before [] f = None
unit_before (x ∷ xs) f = before_from x xs f

-- the list without f
abbrev pub list_without : ℕ → List ℕ → List ℕ
list_without f [] = []
list_without f (x ∷ xs) = if x == f then xs else x ∷ list_without f xs

-- The records and the ends link exactly these units, in this order, as the list `home`. Exactly these units have that
-- home. The queue has both ends and the length, and each unit's record has its two neighbours. No unit is there
-- twice.
pub record IsLinked (links : List Link) (home : Home) (queue : Queue) (units : List ℕ) : Type 0 where
  pub apart : HasNoRepeats units
  pub homes : (f : ℕ) → is_among units f ≡ true → (link_at links f).home ≡ Some home
  pub at_home : (f : ℕ) → (link_at links f).home ≡ Some home → is_among units f ≡ true
  pub oldest : queue.oldest ≡ oldest_of units
  pub newest : queue.newest ≡ newest_of units
  pub count : queue.length ≡ length units
  pub older : (f : ℕ) → is_among units f ≡ true → (link_at links f).older ≡ unit_before units f
  pub newer : (f : ℕ) → is_among units f ≡ true → (link_at links f).newer ≡ unit_behind units f

-- up to n units, from this one on towards the newer
abbrev pub units_from : List Link → Option ℕ → ℕ → List ℕ
units_from links start zero = []
units_from links None (suc n) = []
units_from links (Some x) (suc n) = x ∷ units_from links (link_at links x).newer n

-- the units of a list, from the oldest to the newest
abbrev pub units_of : List Link → Queue → List ℕ
units_of links queue = units_from links queue.oldest queue.length

-- the record of a unit that was just appended to the list after this one
abbrev pub newest_link : Home → Option ℕ → Bool → Link
newest_link home older is_dirty =
    record { home = Some home; older = older; newer = None; is_marked = false; is_dirty = is_dirty }

-- the record of every unit other than f that isn't on the list stays
abbrev pub StaysElsewhere : List Link → List Link → Home → ℕ → Type 0
StaysElsewhere before after home f = (g : ℕ) → g ≢ f → (link_at before g).home ≢ Some home
    → link_at after g ≡ link_at before g

-- every unit other than f stays on its list, marked and dirty as it was; the number of records stays
pub record SameUse (before after : List Link) (f : ℕ) : Type 0 where
  pub frames : length after ≡ length before
  pub home : (g : ℕ) → g ≢ f → (link_at after g).home ≡ (link_at before g).home
  pub marked : (g : ℕ) → g ≢ f → (link_at after g).is_marked ≡ (link_at before g).is_marked
  pub dirty : (g : ℕ) → g ≢ f → (link_at after g).is_dirty ≡ (link_at before g).is_dirty

-- the record of a unit that was removed: it is on no list, marked and dirty as it was
abbrev pub unlinked : Link → Link
unlinked k = record { home = None; older = None; newer = None; is_marked = k.is_marked; is_dirty = k.is_dirty }

-- the records after this unit, if there is one, got another next unit
abbrev pub with_newer : List Link → Option ℕ → Option ℕ → List Link
with_newer links None newer = links
with_newer links (Some u) newer = slice_set links u (record (link_at links u) { newer = newer })

-- the records after this unit, if there is one, got another previous unit
abbrev pub with_older : List Link → Option ℕ → Option ℕ → List Link
with_older links None older = links
with_older links (Some u) older = slice_set links u (record (link_at links u) { older = older })

-- the second of these units, if the first is one; otherwise the third
abbrev pub end_or : Option ℕ → Option ℕ → Option ℕ → Option ℕ
end_or None there other = other
end_or (Some _) there other = there

-- the ends and the length after one more unit joined at the newest end
abbrev pub pushed_queue : Queue → ℕ → Queue
pushed_queue q unit = record {
  oldest = end_or q.newest q.oldest (Some unit);
  newest = Some unit;
  length = q.length + 1;
}

-- the ends and the length after the unit between these two was removed
abbrev pub queue_without : Queue → Option ℕ → Option ℕ → Queue
queue_without q older newer = record {
  oldest = end_or older q.oldest newer;
  newest = end_or newer q.newest older;
  length = q.length - 1;
}
