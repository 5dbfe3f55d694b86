-- Which steps are legal, judged by what a CPU sees.
use Rattle.std.specs.Prelude.{◌≡◌, ◌≢◌, ◌⊎◌, ℕ, true, false}
use Rattle.step_rules.specs.declared.phase.Hold.TheVariants.{HeldBy}
use Rattle.step_rules.specs.declared.step.Action.{Action}
use Rattle.step_rules.specs.declared.step.Action.TheVariants.{Lock, Unlock}
use Rattle.step_rules.specs.declared.step.Answer.TheVariants.{Illegal, Done}
use Rattle.step_rules.specs.State.{Zone, State, is_unheld, free_in}
use Rattle.step_rules.specs.Usage.{usage_of}
use Rattle.step_rules.specs.Legal.{is_legal, Allows}
use Rattle.step_rules.specs.After.{Run, state_of, IsLegalRun}
use Rattle.step_rules.specs.Views.{seen_by}
use Rattle.step_rules.specs.Laws.{ShowsLocal, pushed}

-- a step is legal in what a CPU sees exactly if it is legal, by the same table
pub record LegalityIsSeen (s local : State) (seat : ℕ) (action : Action) : Type 0 where
  pub same : is_legal local seat action ≡ is_legal s seat action
  pub illegal : is_legal local seat action ≡ false → Allows s seat action Illegal
  pub not_illegal : Allows s seat action Illegal → is_legal local seat action ≡ false

-- After a run that shows a CPU a local state, each step of that CPU or of the zone's seat is legal exactly if it is on
-- the local state. It is answered Illegal exactly if it isn't legal there.
abbrev pub AllLegalityIsSeen : Type 0
AllLegalityIsSeen = (zone : Zone) (run : Run) (cpu : ℕ) (local : State) → ShowsLocal zone run cpu local
    → (seat : ℕ) (action : Action) → (seat ≡ 0) ⊎ (seat ≡ cpu) → LegalityIsSeen (state_of zone run) local seat action

-- the run is legal, and leaves the lock free
pub record IsFreeAfter (zone : Zone) (run : Run) : Type 0 where
  pub legal : IsLegalRun zone run
  pub free : is_unheld (state_of zone run).hold ≡ true

-- If a CPU may take the lock, it sees the state after taking it. If a CPU may release the lock by what it sees, the run
-- stays legal when it does so, and the lock is free then.
pub record LockIsPassedOn : Type 0 where
  pub taken : (zone : Zone) (run : Run) (cpu : ℕ) → IsLegalRun zone run → is_legal (state_of zone run) cpu Lock ≡ true
      → ShowsLocal zone (pushed run (record { seat = cpu; action = Lock }) Done) cpu
      (seen_by cpu (record (state_of zone run) { hold = HeldBy cpu }))
  pub given_back : (zone : Zone) (run : Run) (cpu : ℕ) (local : State) → ShowsLocal zone run cpu local
      → is_legal local cpu Unlock ≡ true
      → IsFreeAfter zone (pushed run (record { seat = cpu; action = Unlock }) Done)

-- What a CPU sees as it is in the state: the groups with their limits, who is killed, what is pending, each group's
-- usage, which frames are free, and its own part. Of each other CPU it sees the book, and sees it as the pages of that
-- CPU's stock.
pub record SeesAll (s local : State) (cpu : ℕ) : Type 0 where
  pub zone : local.zone ≡ s.zone
  pub groups : local.groups ≡ s.groups
  pub killed : local.killed ≡ s.killed
  pub pending : local.pending ≡ s.pending
  pub usage : (g : ℕ) → usage_of local g ≡ usage_of s g
  pub free : free_in local.zone local.phases ≡ free_in s.zone s.phases
  pub own : local.parts cpu ≡ s.parts cpu
  pub book : (other : ℕ) → (local.parts other).book ≡ (s.parts other).book
  pub others : (other : ℕ) → other ≢ cpu → (local.parts other).stock.pages ≡ (s.parts other).book

-- after every run that shows a CPU a local state, the CPU sees in it what `SeesAll` lists
abbrev pub AllIsSeen : Type 0
AllIsSeen = (zone : Zone) (run : Run) (cpu : ℕ) (local : State) → ShowsLocal zone run cpu local
    → SeesAll (state_of zone run) local cpu
