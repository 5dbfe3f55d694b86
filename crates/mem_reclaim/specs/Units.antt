-- What is done with one unit of a list, and with the units of a whole list.
use Rattle.std.specs.Prelude.{◌≡◌, ℕ, ◌&&◌, Bool, true, false, Option, unwrap_or, []}
use Rattle.lru_lists.specs.declared.record.Entry.{Entry}
use Rattle.lru_lists.specs.declared.record.LruList.{LruList}
use Rattle.mem_machine.specs.{RenewsUnit, entries_in, Evicts, evict_steps}
use Rattle.mem_reclaim.specs.Wanted.{FreesNothing, Progress, Reclaiming, WhileWanted}

-- the unit gets a second chance: it moves, unmarked, to the newest end of the group's inactive list
pub record SparesUnit (group frame : ℕ) (done : Progress) : Type 0 where
  pub no_page : done.freed ≡ 0
  pub renews : RenewsUnit group frame done.before done.after
  pub no_step : done.steps ≡ []

-- the unit is tried: it is freed if only the zone has a reference, else it is missed
pub record TriesUnit (frame : ℕ) (done : Progress) : Type 0 where
  pub answer : Option ℕ
  pub evicts : Evicts frame answer done.before done.after
  pub pages : done.freed ≡ unwrap_or answer 0
  pub tries : done.steps ≡ evict_steps frame answer

-- what is done with a unit, by whether it is dirty and whether it is spared: a dirty unit is left alone in any case
abbrev pub TriesReclaimAs : Bool → Bool → ℕ → ℕ → Reclaiming
TriesReclaimAs true is_spared group frame = FreesNothing
TriesReclaimAs false true group frame = SparesUnit group frame
TriesReclaimAs false false group frame = TriesUnit frame

-- what is done with a unit of the group while pages are wanted; a marked unit is spared if marks count
abbrev pub TriesReclaim : Bool → ℕ → Entry → ℕ → Reclaiming
TriesReclaim spares_marked group unit want = TriesReclaimAs unit.is_dirty (spares_marked && unit.is_marked) group
    unit.number

-- what is done with the units that are on one of the group's lists now, the oldest first
abbrev pub ScansList : Bool → ℕ → LruList → ℕ → Reclaiming
ScansList spares_marked group list want done =
    WhileWanted (TriesReclaim spares_marked group) (entries_in done.before group list) want done
