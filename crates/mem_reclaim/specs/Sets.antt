-- Which groups are killed with a victim: a whole subtree, or the victim alone (memory.oom.group of cgroup-v2.rst).
use Rattle.std.specs.Prelude.{◌≡◌, ℕ, ◌&&◌, ◌⊎◌, Bool, true, false, Option, Some, None, List, [], ◌∷◌, length, filter, if◌then◌else◌}
use Rattle.std.specs.List.{range_with_len}
use Rattle.group_tree.specs.{in_subtree, is_oom_group, room_of}
use Rattle.group_tree.specs.declared.group.Group.{Group}
use Rattle.group_charge.specs.declared.note.Note.{Note}
use Rattle.group_charge.specs.declared.note.Note.TheVariants as note
use Rattle.mem_machine.specs.Machines.{KnownMachine}
use Rattle.mem_reclaim.specs.declared.sets.Killed.{Killed}
use Rattle.mem_reclaim.specs.Victim.{may_be_killed}

-- the group's flag is on, and the group is on the path from the victim up to the group `limited`, both included
abbrev pub is_flagged_between : List Group → (limited victim : ℕ) → ℕ → Bool
is_flagged_between groups limited victim group =
    in_subtree groups limited group && in_subtree groups group victim && is_oom_group groups group

-- the highest flagged group on the path from the victim up to `limited`: all flagged groups of the path are in its
-- subtree
pub record IsHighestFlagged (groups : List Group) (limited victim killed_root : ℕ) : Type 0 where
  pub between : is_flagged_between groups limited victim killed_root ≡ true
  pub highest : (other : ℕ) → is_flagged_between groups limited victim other ≡ true
      → in_subtree groups killed_root other ≡ true

-- no group on the path from the victim up to `limited` is flagged
abbrev pub HasNoFlagged : List Group → (limited victim : ℕ) → Type 0
HasNoFlagged groups limited victim = (other : ℕ) → is_flagged_between groups limited victim other ≡ false

-- the highest flagged group on the path from the victim up to `limited`; None if there is none
abbrev pub IsFlaggedAbove : List Group → (limited victim : ℕ) → Option ℕ → Type 0
IsFlaggedAbove groups limited victim (Some killed_root) = IsHighestFlagged groups limited victim killed_root
IsFlaggedAbove groups limited victim None = HasNoFlagged groups limited victim

-- the killed root: the highest flagged group on the path from the victim up to `limited`, or the victim itself if
-- there is none
abbrev pub IsKilledRoot : List Group → (limited : ℕ) → Killed → Type 0
IsKilledRoot groups limited killed =
    IsHighestFlagged groups limited killed.victim killed.killed_root
    ⊎ (HasNoFlagged groups limited killed.victim × (killed.killed_root ≡ killed.victim))

-- the groups of the subtree that aren't killed, by ascending number
abbrev pub alive_in_subtree : KnownMachine → ℕ → List ℕ
alive_in_subtree machine killed_root =
    filter (may_be_killed machine killed_root) (range_with_len 0 (room_of machine.ledger.groups))

-- which groups are killed, in this order: if the killed root's flag is on, all groups of its subtree that aren't
-- killed; else the victim alone
abbrev pub kill_set : KnownMachine → Killed → List ℕ
kill_set machine killed =
    if is_oom_group machine.ledger.groups killed.killed_root
    then alive_in_subtree machine killed.killed_root
    else killed.victim ∷ []

-- the note before a group is killed as a whole: how many groups of its subtree die
abbrev pub group_kill_note : KnownMachine → ℕ → Note
group_kill_note machine killed_root = note.GroupKill killed_root (length (alive_in_subtree machine killed_root))
