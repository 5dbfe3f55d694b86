-- What is done if a limit has no room for a charge.
use Rattle.std.specs.Prelude.{◌≡◌, ℕ, ◌<◌, ◌≤◌, true, false, Option, Some, None, Result, Ok, Err, List, [], ◌∷◌, ◌++◌}
use Rattle.group_tree.specs.Groups.{limit_of}
use Rattle.group_charge.specs.{Ledger, current_of, with_max_noted, KnownNotes, noted}
use Rattle.group_charge.specs.declared.note.Note.TheVariants.{Limit}
use Rattle.step_rules.specs.After.{Run}
use Rattle.mem_machine.specs.{KnownMachine, LacksRoom, is_killed, with_run, Makes, VisitState, visit_state, Drain, over_steps, note_max_steps}
use Rattle.mem_machine.specs.{drain_stocks_steps, DrainsAllBelow, AreDrained, InTurn, MachineStays, OfMachineAlone, Transition, transition, KnownRun}
use Rattle.mem_reclaim.specs.{FreesNothing, Reclaiming, progress, FreesPages, ReclaimsRounds, max_rounds, pages_wanted, Keeps, MissedAll}
use Rattle.mem_alloc.specs.declared.faults.AllocFault.{AllocFault}
use Rattle.mem_alloc.specs.declared.faults.AllocFault.TheVariants.{Over, NoFrames, RequesterKilled}
use Rattle.mem_alloc.specs.High.{ReclaimsHigh}
-- what is killed, and whether there is room
pub use Rattle.mem_alloc.specs.Kills.{KillsForRoom, KillsIfAllowed, NeedsRoom, has_room_at, most_killed_for}

-- the notes with one more, if the group has a limit: that the limit has no room for this many more pages
abbrev pub limit_notes : Option ℕ → Ledger → ℕ → ℕ → KnownNotes → KnownNotes
limit_notes None ledger group need notes = notes
limit_notes (Some max) ledger group need notes = noted notes (Limit group max (current_of ledger group) need)

-- the machine after this note of the group's limit
abbrev pub with_limit_noted : KnownMachine → ℕ → ℕ → KnownMachine
with_limit_noted machine group need = record machine {
  notes = limit_notes (limit_of machine.ledger.groups group) machine.ledger group need machine.notes;
}

-- the machine after a note and an event `max`: this many more pages were about to take the group's usage over its limit
abbrev pub with_max_noted_at : KnownMachine → ℕ → ℕ → KnownMachine
with_max_noted_at machine group pages = record machine {
  ledger = with_max_noted machine.ledger group;
  notes = limit_notes (limit_of machine.ledger.groups group) machine.ledger group pages machine.notes;
}

-- It is noted that this many pages were about to take the group's usage over its limit, and the run notes it. Then
-- the stocks of its subtree are drained by these steps, whichever CPU holds the lock.
pub record ClearsBelow (limited pages : ℕ) (call : Transition KnownMachine) : Type 0 where
  pub drains : List Drain
  pub seen : KnownRun
  pub notes : Makes call.table call.before (note_max_steps limited)
      (with_run (with_max_noted_at call.before limited pages) seen)
  pub all : DrainsAllBelow call.table limited call.table.cpus drains
      (with_run (with_max_noted_at call.before limited pages) seen) call.after
  pub drained : AreDrained call.table limited call.after
  pub steps_are : call.steps ≡ note_max_steps limited ++ drain_stocks_steps drains
  pub runs : Makes call.table call.before call.steps call.after

-- what is reclaimed from the group's subtree for this limit: nothing if there is no limit, else as many pages as are
-- missing, in at most `max_rounds` rounds, each of which wants at least `batch` pages
abbrev pub ReclaimsBefore : Option ℕ → (batch limited pages : ℕ) → Reclaiming
ReclaimsBefore None batch limited pages = FreesNothing
ReclaimsBefore (Some limit) batch limited pages =
    ReclaimsRounds limited (pages_wanted batch limited pages limit) max_rounds

-- Clean units of the group's subtree are freed in rounds, `freed` pages in all, until its limit has room for this many
-- pages. Each round wants at least as many pages as the boot chose. If it still has none, each clean unit that the
-- subtree still keeps was tried and missed, or memory.min keeps it.
pub record ReclaimsFor (limited pages : ℕ) (call : Transition KnownMachine) : Type 0 where
  pub freed : ℕ
  pub reclaims : ReclaimsBefore (limit_of call.before.ledger.groups limited) call.table.choices.reclaim_batch limited
      pages (progress freed call.before call.steps call.after)
  pub missed : has_room_at call.after.ledger limited pages ≡ false → MissedAll limited call.before call.after
  pub keeps : Keeps call.table call.before call.after
  pub moves : FreesPages call.table call.before freed call.steps call.after

-- what is done if reclaim makes no room: victims are killed for up to `most_killed_for` pages; for more, nobody is
-- killed
pub record KillsForFewPages (requester limited pages : ℕ) (call : Transition KnownMachine) : Type 0 where
  pub few : pages ≤ most_killed_for → KillsForRoom (Some requester) limited pages call
  pub many : most_killed_for < pages → MachineStays call

-- The limit of the group `limited` had no room for this many pages. That is noted there as `max`, the stocks of its
-- subtree are drained, its units are reclaimed in rounds, and then its victims are killed, if the boot allows that.
abbrev pub RelievesLimit : ℕ → ℕ → ℕ → Transition KnownMachine → Type 0
RelievesLimit requester limited pages call =
    InTurn (ClearsBelow limited pages)
    (InTurn (ReclaimsFor limited pages) (KillsIfAllowed (KillsForFewPages requester limited pages))) call

-- the limit of the group `limited` has room for this many pages, and the requester, the group that asks for them, isn't
-- killed
pub record HasMadeRoom (requester limited pages : ℕ) (after : KnownMachine) : Type 0 where
  pub room : has_room_at after.ledger limited pages ≡ true
  pub alive : is_killed after.killed requester ≡ false

-- What the answer says after the limit of the group `limited` was relieved for the requester's pages. Ok: the limit has
-- room for them. Over: it still has none, and the requester isn't killed. RequesterKilled: the requester was killed.
abbrev pub IsRoomAnswer : ℕ → ℕ → ℕ → Result (Unit {0}) AllocFault → KnownMachine → Type 0
IsRoomAnswer requester limited pages (Ok done) after = HasMadeRoom requester limited pages after
IsRoomAnswer requester limited pages (Err (Over named)) after =
    (named ≡ limited) × NeedsRoom (Some requester) limited pages after
IsRoomAnswer requester limited pages (Err RequesterKilled) after = is_killed after.killed requester ≡ true
IsRoomAnswer requester limited pages (Err NoFrames) after = ⊥

-- A charge of this many pages to the group `requester` is refused at the group `limited`, the lowest without room on
-- its path, which the run notes. Then that limit is relieved, and this is the answer.
pub record IsRefusedAt (requester limited pages : ℕ) (answer : Result (Unit {0}) AllocFault)
    (call : Transition KnownMachine) : Type 0 where
  pub lowest : LacksRoom call.before requester pages limited
  pub relieving : Run
  pub seen : KnownRun
  pub refuses : Makes call.table call.before (over_steps requester pages limited) (with_run call.before seen)
  pub relieves : RelievesLimit requester limited pages
      (transition call.table (with_run call.before seen) relieving call.after)
  pub room : IsRoomAnswer requester limited pages answer call.after
  pub steps_are : call.steps ≡ over_steps requester pages limited ++ relieving

-- a charge is refused at each of these groups, one after the other, and each limit then gets room for the pages
abbrev pub MakesRoom : ℕ → List ℕ → ℕ → Transition KnownMachine → Type 0
MakesRoom requester [] pages call = MachineStays call
MakesRoom requester (limited ∷ others) pages call =
    InTurn (IsRefusedAt requester limited pages (Ok tt)) (MakesRoom requester others pages) call

-- What precedes a charge of this many pages to the requester: what memory.high asks for, and then the charge may be
-- refused at these groups, which then get room.
abbrev pub PreparesCharge : ℕ → List ℕ → ℕ → Transition KnownMachine → Type 0
PreparesCharge requester refused_at pages call =
    InTurn (ReclaimsHigh requester pages) (MakesRoom requester refused_at pages) call

-- A charge of this many pages to the requester is prepared, and may first be refused at the groups `refused_at`. After
-- that `Does` holds.
pub record AfterRoom (requester pages : ℕ) (Does : Transition VisitState → Type 0)
    (call : Transition VisitState) : Type 0 where
  pub refused_at : List ℕ
  pub cleared : KnownMachine
  pub making : Run
  pub later : Run
  pub makes : PreparesCharge requester refused_at pages (transition call.table call.before.machine making cleared)
  pub does : Does (transition call.table (visit_state cleared call.before.cpu) later call.after)
  pub steps_are : call.steps ≡ making ++ later

-- a charge is refused at some group; after that the group still has no room, or the requester was killed: this is the
-- cause
abbrev pub IsRefusedAtSome : ℕ → ℕ → AllocFault → Transition KnownMachine → Type 0
IsRefusedAtSome requester pages cause call = (limited : ℕ) × IsRefusedAt requester limited pages (Err cause) call

-- a charge is refused for good, for this cause; other groups may have refused it before, and then got room
abbrev pub IsRefusedFor : ℕ → ℕ → AllocFault → Transition VisitState → Type 0
IsRefusedFor requester pages cause call =
    AfterRoom requester pages (OfMachineAlone (IsRefusedAtSome requester pages cause)) call
