-- What `touch` and `set_dirty` do.
use Rattle.std.specs.Prelude.{◌≡◌, ℕ, Bool, Some}
use Rattle.lru_lists.specs.declared.record.LruList.{LruList}
use Rattle.lru_lists.specs.Lists.{Touches, changed_at, dirtied}
use Rattle.lru_lists.specs.declared.lru.Touched.{Touched}
use Rattle.mem_machine.specs.Machines.{KnownMachine, OthersStay, UnlistedStay, home_of, lists_at, lists_of, inactive_in, active_in}

-- the unit is dirty or clean as `is_dirty` says, at the same place of its list, and nothing else changed
pub record Dirties (frame : ℕ) (is_dirty : Bool) (before after : KnownMachine) : Type 0 where
  pub group : ℕ
  pub list : LruList
  pub home : home_of before.links frame ≡ Some (record { owner = group; list = list })
  pub machine : after ≡ record before { links = after.links }
  pub inactive : inactive_in after group ≡ changed_at frame (dirtied is_dirty) (inactive_in before group)
  pub active : active_in after group ≡ changed_at frame (dirtied is_dirty) (active_in before group)
  pub others : OthersStay group (lists_of before) (lists_of after)
  pub unlisted : UnlistedStay before.links after.links

-- the unit was touched on its list, and nothing else changed
pub record TouchesUnit (frame : ℕ) (touched : Touched) (before after : KnownMachine) : Type 0 where
  pub group : ℕ
  pub list : LruList
  pub home : home_of before.links frame ≡ Some (record { owner = group; list = list })
  pub machine : after ≡ record before { links = after.links; lists = after.lists }
  pub touches : Touches before.links (lists_at before.lists group) frame touched
      after.links (lists_at after.lists group)
  pub others : OthersStay group (lists_of before) (lists_of after)
  pub unlisted : UnlistedStay before.links after.links
