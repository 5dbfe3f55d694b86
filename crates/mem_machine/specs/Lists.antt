-- How units join the lists of their groups and leave them.
use Rattle.std.specs.Prelude.{◌≡◌, ◌≢◌, ℕ, Some, None, [], ◌∷◌, ◌++◌, false}
use Rattle.lru_lists.specs.declared.record.LruList.{LruList}
use Rattle.lru_lists.specs.declared.record.LruList.TheVariants.{Inactive}
use Rattle.lru_lists.specs.{link_at, nowhere, SameUse, inactive_of, active_of, entries_without}
use Rattle.mem_machine.specs.Machines.{KnownMachine, GroupLists, OthersStay, UnlistedStay, home_of, lists_at, lists_of}

-- The unit joins the newest end of its group's inactive list, clean and unmarked. Every other frame is on the list that
-- it was on, if any. The lists of all other groups are the same, and each other frame on no list keeps its link.
pub record JoinsList (group frame : ℕ) (before after : GroupLists) : Type 0 where
  pub home : home_of after.links frame ≡ Some (record { owner = group; list = Inactive })
  pub homes : (other : ℕ) → other ≢ frame → home_of after.links other ≡ home_of before.links other
  pub inactive : inactive_of after.links (lists_at after.lists group)
      ≡ inactive_of before.links (lists_at before.lists group)
      ++ record { number = frame; is_marked = false; is_dirty = false } ∷ []
  pub active : active_of after.links (lists_at after.lists group)
      ≡ active_of before.links (lists_at before.lists group)
  pub others : OthersStay group before after
  pub unlisted : (other : ℕ) → other ≢ frame → home_of before.links other ≡ None
      → link_at after.links other ≡ link_at before.links other

-- the unit joins its group's inactive list, in the machine
abbrev pub ListsUnit : ℕ → ℕ → KnownMachine → KnownMachine → Type 0
ListsUnit group frame before after = JoinsList group frame (lists_of before) (lists_of after)

-- The unit leaves its list. Every other unit keeps its list, its place there, its mark and its dirt. Each frame on no
-- list keeps its link.
pub record LeavesList (frame : ℕ) (before after : GroupLists) : Type 0 where
  pub group : ℕ
  pub list : LruList
  pub home : home_of before.links frame ≡ Some (record { owner = group; list = list })
  pub forgotten : link_at after.links frame ≡ nowhere
  pub homes : (other : ℕ) → other ≢ frame → home_of after.links other ≡ home_of before.links other
  pub unlisted : UnlistedStay before.links after.links
  pub used : SameUse before.links after.links frame
  pub inactive : inactive_of after.links (lists_at after.lists group)
      ≡ entries_without frame (inactive_of before.links (lists_at before.lists group))
  pub active : active_of after.links (lists_at after.lists group)
      ≡ entries_without frame (active_of before.links (lists_at before.lists group))
  pub others : OthersStay group before after
