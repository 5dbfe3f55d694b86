-- How the two lists of a group are aged and renewed, and how they are read.
use Rattle.std.specs.Prelude.{◌≡◌, ℕ, false, [], ◌∷◌, ◌++◌}
use Rattle.lru_lists.specs.Lists.{SameOwners, Ages, entries_without, entry_of, marked}
use Rattle.mem_machine.specs.Machines.{KnownMachine, OthersStay, UnlistedStay, lists_at, lists_of, inactive_in, active_in}
-- one of the two lists of the group, from the oldest unit to the newest
pub use Rattle.mem_machine.specs.Machines.{entries_in}

-- The group's oldest active units move, unmarked, to the newest end of its inactive list. They are as few as leave the
-- active list no longer than the inactive one. Each frame is on a list of the same group as before and as dirty as
-- before. Nothing else changed.
pub record AgesGroup (group : ℕ) (before after : KnownMachine) : Type 0 where
  pub machine : after ≡ record before { links = after.links; lists = after.lists }
  pub ages : Ages before.links (lists_at before.lists group) after.links (lists_at after.lists group)
  pub others : OthersStay group (lists_of before) (lists_of after)
  pub owners : SameOwners before.links after.links
  pub unlisted : UnlistedStay before.links after.links

-- The unit moves, unmarked, to the newest end of the group's inactive list. Each frame is on a list of the same group
-- as before and as dirty as before. Nothing else changed.
pub record RenewsUnit (group frame : ℕ) (before after : KnownMachine) : Type 0 where
  pub machine : after ≡ record before { links = after.links; lists = after.lists }
  pub inactive : inactive_in after group
      ≡ entries_without frame (inactive_in before group) ++ marked false (entry_of before.links frame) ∷ []
  pub active : active_in after group ≡ active_in before group
  pub others : OthersStay group (lists_of before) (lists_of after)
  pub owners : SameOwners before.links after.links
  pub unlisted : UnlistedStay before.links after.links
