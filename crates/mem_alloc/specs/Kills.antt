-- Which victims are killed if a limit has no room even after reclaim.
use Rattle.std.specs.Prelude.{◌≡◌, ℕ, Bool, true, false, Option, Some, None, List, [], ◌∷◌, ◌++◌}
use Rattle.group_tree.specs.Room.{has_room}
use Rattle.group_charge.specs.{AreCharges, Ledger, current_of, with_oom_noted, noted}
use Rattle.step_rules.specs.After.{Run}
use Rattle.group_charge.specs.declared.note.Note.TheVariants.{Oom}
use Rattle.mem_machine.specs.{IsConsistent, KnownMachine, is_killed, with_run, Makes, note_oom_steps, InTurn, MachineStays, Transition, transition}
use Rattle.mem_machine.specs.{KnownRun}
use Rattle.mem_reclaim.specs.declared.sets.Killed.{Killed}
use Rattle.mem_reclaim.specs.{IsKilledBy, OnlyDrains, OnlyReleases, with_all_killed, kill_set, IsVictim}

-- the most pages of one charge for which groups are killed: those of an order of 3
abbrev pub most_killed_for : ℕ
most_killed_for = 8

-- whether the limit of the group has room for this many more pages
abbrev pub has_room_at : Ledger → ℕ → ℕ → Bool
has_room_at ledger group pages = has_room ledger.groups (current_of ledger) group pages

-- the machine after a note and an event `oom`: only kills are left to keep the group within its limit
abbrev pub with_oom_noted_at : KnownMachine → ℕ → KnownMachine
with_oom_noted_at machine group = record machine {
  ledger = with_oom_noted machine.ledger group;
  notes = noted machine.notes (Oom group);
}

-- the group that asks for the pages, if one does, isn't killed
abbrev pub IsAlive : Option ℕ → KnownMachine → Type 0
IsAlive None machine = Unit {0}
IsAlive (Some requester) machine = is_killed machine.killed requester ≡ false

-- the limit of the group has no room for this many pages, and the group that asks for them, if any, isn't killed
pub record NeedsRoom (requester : Option ℕ) (limited pages : ℕ) (machine : KnownMachine) : Type 0 where
  pub over : has_room_at machine.ledger limited pages ≡ false
  pub alive : IsAlive requester machine

-- One kill. The pages are still wanted, the machine is consistent, and its charges add up. The victim of the group is
-- killed with all groups that die with it. These are marked as killed. No stock is filled or changes its group, and
-- some kept units are released.
pub record KillsOneVictim (requester : Option ℕ) (limited pages : ℕ) (killed : Killed)
    (call : Transition KnownMachine) : Type 0 where
  pub needs_room : NeedsRoom requester limited pages call.before
  pub chosen : IsVictim call.before limited (Some killed.victim)
  pub consistent : IsConsistent call.table call.before
  pub charges : AreCharges call.before.ledger
  pub kills : IsKilledBy call.table limited killed call.before call.after
  pub steps_are : call.steps ≡ kills.steps
  pub marked : call.after.killed ≡ with_all_killed call.before.killed (kill_set call.before killed)
  pub stocks : OnlyDrains call.table call.before call.after
  pub keeps : OnlyReleases call.table call.before call.after

-- these victims are killed like this, one after the other
abbrev pub KillsVictims : Option ℕ → ℕ → ℕ → List Killed → Transition KnownMachine → Type 0
KillsVictims requester limited pages [] call = MachineStays call
KillsVictims requester limited pages (killed ∷ others) call =
    InTurn (KillsOneVictim requester limited pages killed) (KillsVictims requester limited pages others) call

-- One `oom` is noted at the group, which the run notes. Then victims of it are killed, one after the other, each with
-- all groups that die with it. This ends when its limit has room for this many pages, when the group that asks for them
-- is killed, or when no victim is left.
pub record KillsUntilRoom (requester : Option ℕ) (limited pages : ℕ) (call : Transition KnownMachine) : Type 0 where
  pub victims : List Killed
  pub killing : Run
  pub seen : KnownRun
  pub notes : Makes call.table call.before (note_oom_steps limited)
      (with_run (with_oom_noted_at call.before limited) seen)
  pub kills : KillsVictims requester limited pages victims
      (transition call.table (with_run (with_oom_noted_at call.before limited) seen) killing call.after)
  pub ended : NeedsRoom requester limited pages call.after → IsVictim call.after limited None
  pub steps_are : call.steps ≡ note_oom_steps limited ++ killing

-- if the group's limit has no room for this many pages, victims of the group are killed; else nothing is done
pub record KillsForRoom (requester : Option ℕ) (limited pages : ℕ) (call : Transition KnownMachine) : Type 0 where
  pub room : has_room_at call.before.ledger limited pages ≡ true → MachineStays call
  pub over : has_room_at call.before.ledger limited pages ≡ false → KillsUntilRoom requester limited pages call

-- these kills, unless the boot chose that no group is killed; then nothing is done
abbrev pub UnlessNoKill : (is_no_kill : Bool) → (Transition KnownMachine → Type 0) → Transition KnownMachine → Type 0
UnlessNoKill false Kills call = Kills call
UnlessNoKill true Kills call = MachineStays call

-- these kills, if the boot of the call allows any
abbrev pub KillsIfAllowed : (Transition KnownMachine → Type 0) → Transition KnownMachine → Type 0
KillsIfAllowed Kills call = UnlessNoKill call.table.choices.is_no_kill Kills call
