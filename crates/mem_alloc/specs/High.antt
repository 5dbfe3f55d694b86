-- What is done for memory.high before a charge (cgroup-v2.rst, memory.high).
use Rattle.std.specs.Prelude.{◌≡◌, ◌⊎◌, ℕ, ◌+◌, ◌<◌, ◌≤◌, Bool, true, false, Option, Some, None, List, [], ◌∷◌, ◌++◌}
use Rattle.group_tree.specs.Ancestors.{ancestors_of}
use Rattle.group_tree.specs.declared.event.EventKey.TheVariants as event
use Rattle.group_tree.specs.{in_subtree, fits_limit}
use Rattle.group_charge.specs.{Ledger, current_of, settings_of, with_noted, noted}
use Rattle.group_charge.specs.declared.note.Note.TheVariants.{High}
use Rattle.step_rules.specs.declared.step.NoteKey.TheVariants as key
use Rattle.step_rules.specs.After.{Run}
use Rattle.mem_machine.specs.{KnownMachine, with_run, Makes, KnownRun, note_steps, InTurn, MachineStays, Transition}
use Rattle.mem_reclaim.specs.{FreesPages, has_kill, ReclaimsRounds, max_rounds, pages_wanted, Keeps, MissedAll, progress}

-- memory.high of the group, in pages
abbrev pub high_of : Ledger → ℕ → Option ℕ
high_of ledger group = (settings_of ledger group).high

-- with this many more pages the group's usage is at most its memory.high
abbrev pub has_high_room : Ledger → ℕ → ℕ → Bool
has_high_room ledger group pages = fits_limit (high_of ledger group) (current_of ledger group + pages)

-- so is that of each ancestor
abbrev pub PathHasHighRoom : Ledger → ℕ → ℕ → Type 0
PathHasHighRoom ledger group pages =
    (above : ℕ) → in_subtree ledger.groups above group ≡ true → has_high_room ledger above pages ≡ true

-- the machine after a note and an event `high`: this many more pages were about to take the group's usage over its
-- memory.high
abbrev pub with_high_noted_at : KnownMachine → (group high need : ℕ) → KnownMachine
with_high_noted_at machine group high need = record machine {
  ledger = with_noted event.High machine.ledger group;
  notes = noted machine.notes (High group high (current_of machine.ledger group) need);
}

-- An event `high` is noted at the group, which the run notes. Then clean units of its subtree are freed in rounds,
-- until its usage with this many more pages is at most `high`. Each round wants at least as many pages as the boot
-- chose. If the usage is still more, each clean unit that the subtree still keeps was tried and missed, or memory.min
-- keeps it.
pub record ReclaimsToHigh (group need high : ℕ) (call : Transition KnownMachine) : Type 0 where
  pub over : high < current_of call.before.ledger group + need
  pub seen : KnownRun
  pub freed : ℕ
  pub later : Run
  pub notes : Makes call.table call.before (note_steps key.High group)
      (with_run (with_high_noted_at call.before group high need) seen)
  pub rounds : ReclaimsRounds group (pages_wanted call.table.choices.reclaim_batch group need high) max_rounds
      (progress freed (with_run (with_high_noted_at call.before group high need) seen) later call.after)
  pub missed : high < current_of call.after.ledger group + need
      → MissedAll group (with_run (with_high_noted_at call.before group high need) seen) call.after
  pub moves : FreesPages call.table (with_run (with_high_noted_at call.before group high need) seen) freed later
      call.after
  pub steps_are : call.steps ≡ note_steps key.High group ++ later

-- what this memory.high of the group asks for before a charge of `need` pages
abbrev pub KeepsToHigh : Option ℕ → (group need : ℕ) → Transition KnownMachine → Type 0
KeepsToHigh None group need call = MachineStays call
KeepsToHigh (Some high) group need call =
    ((current_of call.before.ledger group + need ≤ high) × MachineStays call) ⊎ ReclaimsToHigh group need high call

-- what memory.high of each of these groups asks for, one after the other
abbrev pub KeepToHigh : List ℕ → ℕ → Transition KnownMachine → Type 0
KeepToHigh [] need call = MachineStays call
KeepToHigh (group ∷ others) need call =
    InTurn (λ one. KeepsToHigh (high_of one.before.ledger group) group need one) (KeepToHigh others need) call

-- What memory.high of the group and of each ancestor asks for, from the group up to the root. Nobody is killed.
pub record ReclaimsHigh (group need : ℕ) (call : Transition KnownMachine) : Type 0 where
  pub each : KeepToHigh (ancestors_of call.before.ledger.groups group) need call
  pub runs : Makes call.table call.before call.steps call.after
  pub keeps : Keeps call.table call.before call.after
  pub no_kill : has_kill call.steps ≡ false
