-- A command between the Lock and the Unlock that the watch takes. Serves `serve_under_lock`, `serve_frame_under_lock`.
use Rattle.std.proofs.Common.{◌≡◌, ◌≢◌, ℕ, ◌++◌, Bool, [], ◌∷◌, inr, refl, subst, sym}
use Rattle.std.specs.Prelude.{◌⊎◌}
use Rattle.boot_words.specs.{AllOf, own_past, GrewByAll, changes_of, KnownTable}
use Rattle.boot_words.proofs.Gaining.{of_two_seats, visit_gains}
use Rattle.step_rules.specs.declared.step.Step.{Step}
use Rattle.step_rules.specs.declared.step.Answer.{Answer}
use Rattle.step_rules.specs.State.{State}
use Rattle.step_rules.specs.{Run, after, IsLocalRun, cpu_makes}
use Rattle.step_rules.specs.declared.step.Action.TheVariants.{Lock, Unlock}
use Rattle.step_rules.specs.declared.step.Answer.TheVariants as step_answer
use Rattle.mem_history.specs.Whole.{under_lock}
use Rattle.mem_system.specs.declared.command.LockedCommand.{LockedCommand}
use Rattle.mem_system.specs.declared.outcome.Outcome.{Outcome}
use Rattle.mem_system.specs.{CpuInRun, KnownLocked, IsServed, locked_state}
use Rattle.reply_texts.specs.declared.line_answer.LineAnswer.{LineAnswer}
use Rattle.script_lines.specs.declared.line.Command.{Command}
use Rattle.script_replay.specs.{AnswersLocked, Gains, OnlyWatched, ServesUnderLock, locked_with_detail_notes, NamesItsGroups}

-- ---- the seats of the steps under the lock

-- a step of the zone's seat or of this CPU
abbrev IsOfBoth : ℕ → Step × Answer → Type 0
IsOfBoth cpu one = (one.0.seat ≡ 0) ⊎ (one.0.seat ≡ cpu)

local_own : (cpu : ℕ) (steps : Run) (a b : State) → IsLocalRun cpu a steps b → AllOf (IsOfBoth cpu) steps
local_own cpu [] a b leads = tt
local_own cpu (e ∷ steps) a b leads = (leads.0.own, local_own cpu steps (after a e.0.seat e.0.action e.1) b leads.1)

and_unlock : (cpu : ℕ) (steps : Run) → AllOf (IsOfBoth cpu) steps → AllOf (IsOfBoth cpu) (steps ++ cpu_makes cpu Unlock step_answer.Done ∷ [])
and_unlock cpu [] all = (inr refl, tt)
and_unlock cpu (e ∷ steps) all = (all.0, and_unlock cpu steps all.1)

under_lock_own : (cpu : ℕ) (steps : Run) → AllOf (IsOfBoth cpu) steps → AllOf (IsOfBoth cpu) (under_lock cpu steps)
under_lock_own cpu steps all = (inr refl, and_unlock cpu steps all)

-- ---- one command

module _ (t : KnownTable) (is_explained : Bool) (command : Command) (before found left after : KnownLocked) (c d : CpuInRun) (number : ℕ) (named : number ≡ c.part.number)
    (in_run : (own_past c.past).number ≡ c.part.number) (zone : (own_past before.machine.run.past).number ≡ 0)
    (lock : OnlyWatched (cpu_makes number Lock step_answer.Done ∷ []) (locked_with_detail_notes before is_explained) found) (unlock : OnlyWatched (cpu_makes number Unlock step_answer.Done ∷ []) left after) where
  -- the zone's past and the CPU's gained the steps, which the watch took
  visit_made : (asked : LockedCommand) (reply : Outcome) → (served : IsServed t asked reply (locked_state found c) (locked_state left d))
      → Gains (under_lock c.part.number served.steps) (locked_state before c) (locked_state after d)
  visit_made asked reply served =
      let p = c.part.number in
      let steps = under_lock p served.steps in
      let own = subst (λ (q : ℕ). AllOf (IsOfBoth q) served.steps) served.taken.holds.who (local_own _ served.steps _ _ served.makes.leads) in
      let all = under_lock_own p served.steps own in
      let grew : GrewByAll (own_past before.machine.run.past) steps (own_past left.machine.run.past) =
      subst (λ (l : KnownLocked). GrewByAll (own_past l.machine.run.past) steps (own_past left.machine.run.past)) lock.locked served.run.zone_grew in
      subst (λ (l : KnownLocked). Gains steps (locked_state before c) (locked_state l d)) (sym unlock.locked)
      (visit_gains (own_past before.machine.run.past) (own_past c.past) steps (own_past left.machine.run.past) (own_past d.past) grew served.run.cpu_grew zone
      (subst (λ (n : ℕ). (other : ℕ) → other ≢ 0 → other ≢ n → changes_of other steps ≡ 0) (sym in_run) (of_two_seats p steps all)))

  -- the watch took a Lock before the command, and an Unlock after it
  pub served_locked : (answer : LineAnswer) → AnswersLocked t command answer (locked_state found c) (locked_state left d)
      → ServesUnderLock t is_explained command answer (locked_state before c) (locked_state after d)
  served_locked answer answers = record {
    steps = under_lock c.part.number answers.serves.visit.steps;
    served = record {
      found = found;
      left = left;
      lock = subst (λ (n : ℕ). OnlyWatched (cpu_makes n Lock step_answer.Done ∷ []) (locked_with_detail_notes before is_explained) found) named lock;
      answers = answers;
      unlock = subst (λ (n : ℕ). OnlyWatched (cpu_makes n Unlock step_answer.Done ∷ []) left after) named unlock;
      steps_are = refl;
    };
    gains = visit_made answers.serves.served answers.serves.given answers.serves.visit;
  }

  -- the charges are those that the command left
  pub groups_locked : (answer : LineAnswer) → NamesItsGroups left.machine.ledger answer → NamesItsGroups after.machine.ledger answer
  groups_locked answer groups = subst (λ (l : KnownLocked). NamesItsGroups l.machine.ledger answer) (sym unlock.locked) groups
