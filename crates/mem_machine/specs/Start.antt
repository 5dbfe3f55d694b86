-- The lists of a new machine.
use Rattle.std.specs.Prelude.{◌≡◌, ℕ, ◌<◌, List, length}
use Rattle.std.specs.List.{slice_index_or}
use Rattle.lru_lists.specs.declared.record.Link.{Link}
use Rattle.lru_lists.specs.declared.lru.Lru.{Lru}
use Rattle.lru_lists.specs.{AreNowhere, AreLinked}

-- These are the pairs of lists of this many owners, from owner 0 on. Each is empty: it agrees with any links in which
-- no frame is on a list.
pub record AreEmpty (lists : List Lru) (owners : ℕ) : Type 0 where
  pub count : length lists ≡ owners
  pub owned : (owner : ℕ) (any : Lru) → owner < length lists → (slice_index_or lists owner any).owner ≡ owner
  pub stand : (owner : ℕ) (any : Lru) → owner < length lists
      → (links : List Link) → AreNowhere links → AreLinked links (slice_index_or lists owner any)
