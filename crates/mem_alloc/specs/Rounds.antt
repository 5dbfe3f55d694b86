-- Rounds of reclaim from the units of all groups, each followed by one more try.
use Rattle.std.specs.Prelude.{◌≡◌, ℕ, zero, suc, ◌-◌, ◌<◌, ◌≤◌, ◌⊎◌, ◌++◌}
use Rattle.step_rules.specs.After.{Run}
use Rattle.group_charge.specs.declared.note.Note.TheVariants.{Zone}
use Rattle.mem_machine.specs.{KnownMachine, with_note, VisitState, visit_state, InTurn, Stays, Transition, transition}
use Rattle.mem_reclaim.specs.{progress, FreesPages, ReclaimsRound, max_rounds, Keeps, MissedAll}

-- The round of this number: `want` pages are wanted from the root's subtree, which is all groups, and `freed` pages are
-- freed. The round is noted. If they are fewer than wanted, each clean unit that is still kept was tried and missed, or
-- memory.min keeps it. Then the call tries once more, even if no page was freed.
pub record MakesRound (number want freed : ℕ) (Tries : Transition VisitState → Type 0)
    (call : Transition VisitState) : Type 0 where
  pub reclaimed : KnownMachine
  pub reclaiming : Run
  pub trying : Run
  pub reclaims : ReclaimsRound 0 number want (progress freed call.before.machine reclaiming reclaimed)
  pub missed : freed < want → MissedAll 0 call.before.machine reclaimed
  pub keeps : Keeps call.table call.before.machine reclaimed
  pub moves : FreesPages call.table call.before.machine freed reclaiming reclaimed
  pub tries : Tries (transition call.table (visit_state reclaimed call.before.cpu) trying call.after)
  pub steps_are : call.steps ≡ reclaiming ++ trying

-- a round of this number that freed pages
pub record FreesInRound (number want : ℕ) (Tries : Transition VisitState → Type 0)
    (call : Transition VisitState) : Type 0 where
  pub freed : ℕ
  pub some : 1 ≤ freed
  pub round : MakesRound number want freed Tries call

-- the try fails in all rounds, of which at most this many of the `max_rounds` are left; a round that freed no page is
-- the last
abbrev pub FailsInRounds : ℕ → ℕ → (Transition VisitState → Type 0) → Transition VisitState → Type 0
FailsInRounds zero want Fails call = Stays call
FailsInRounds (suc rounds) want Fails call =
    MakesRound (max_rounds - rounds) want 0 Fails call
    ⊎ InTurn (FreesInRound (max_rounds - rounds) want Fails) (FailsInRounds rounds want Fails) call

-- The try succeeds in one of the rounds, of which at most this many of the `max_rounds` are left. It fails in the
-- rounds before, each of which freed pages.
abbrev pub SucceedsInRounds : ℕ → ℕ → (Transition VisitState → Type 0) → (Transition VisitState → Type 0)
    → Transition VisitState → Type 0
SucceedsInRounds zero want Succeeds Fails call = ⊥
SucceedsInRounds (suc rounds) want Succeeds Fails call =
    ((freed : ℕ) × MakesRound (max_rounds - rounds) want freed Succeeds call)
    ⊎ InTurn (FreesInRound (max_rounds - rounds) want Fails) (SucceedsInRounds rounds want Succeeds Fails) call

-- first a note says that no block of this order is free, and then `Does` holds
abbrev pub AfterZoneNote : (order : ℕ) → (Transition VisitState → Type 0) → Transition VisitState → Type 0
AfterZoneNote order Does call =
    Does (transition call.table (visit_state (with_note call.before.machine (Zone order)) call.before.cpu) call.steps
    call.after)
