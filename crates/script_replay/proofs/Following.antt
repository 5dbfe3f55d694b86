-- A line carries the whole on. Serves `replay`.
use Rattle.std.proofs.Common.{Bool, ◌≡◌, ◌≢◌, ℕ, ◌++◌, Some, List, [], ◌∷◌, refl, sym, ◌∙◌, ap, subst, inl, inr, zero}
use Rattle.std.specs.Prelude.{slice_set}
use Rattle.std.specs.List.{slice_get}
use Rattle.std.proofs.lemmas.List.{append-nil, length-set}
use Rattle.frame_word.specs.declared.answers.Get.TheVariants.{Held}
use Rattle.frame_word.specs.declared.answers.Put.{Put}
use Rattle.frame_word.specs.declared.answers.Put.TheVariants as put
use Rattle.stock_word.specs.declared.stock.Stock.{Stock}
use Rattle.group_charge.specs.Charges.{Ledger}
use Rattle.group_tree.specs.declared.fault.Fault.TheVariants.{NoGroup, PinsFull, NotPinned}
use Rattle.cpu_part.specs.declared.answers.Fast.{Fast as FastAnswer}
use Rattle.cpu_part.specs.declared.answers.Fast.TheVariants.{FreshFull, ListEmpty, OtherGroup, Drained, NoStock, Got}
use Rattle.cpu_part.specs.{KnownCpuLists, FastAnswers, UnpinAnswers}
use Rattle.step_rules.specs.declared.phase.Hold.{Hold}
use Rattle.step_rules.specs.declared.phase.Hold.TheVariants.{HeldBy, Unheld}
use Rattle.step_rules.specs.declared.step.Action.{Action}
use Rattle.step_rules.specs.declared.step.Action.TheVariants as step
use Rattle.step_rules.specs.declared.step.Answer.{Answer as StepAnswer}
use Rattle.step_rules.specs.declared.step.Answer.TheVariants as step_answer
use Rattle.step_rules.specs.State.{State}
use Rattle.step_rules.specs.After.{Run, state_of, IsLegalRun, cpu_makes}
use Rattle.step_watch.specs.Watched.{KnownWatch}
use Rattle.boot_words.specs.{own_past, IsFast, zone_of_boot, KnownTable}
use Rattle.mem_machine.specs.{VisitState, visit_state, KnownMachine, left_by, with_run, with_watch, AgreesWithRun}
use Rattle.mem_machine.proofs.Locks.{unlocked_found}
use Rattle.mem_history.specs.{GoesOnTo, HasTakenLock, IsOwnStep, LeaveTheSame, ShowsAll, under_lock, IsPart, put_answer}
use Rattle.mem_history.proofs.Wholes.{lines_follow, parts_after, the_same_is_shown}
use Rattle.mem_history.proofs.Fast.{fast_lines_follow}
use Rattle.mem_history.proofs.Leading.{fast_calls_lead}
use Rattle.mem_system.specs.declared.command.LockedCommand.{LockedCommand}
use Rattle.mem_system.specs.declared.outcome.Outcome.{Outcome}
use Rattle.mem_system.specs.{CpuInRun, seat_of, KnownLocked, LockedState, locked_state, IsServed}
use Rattle.mem_system.specs.Visits.{transition}
use Rattle.reply_texts.specs.declared.line_answer.LineAnswer.{LineAnswer}
use Rattle.reply_texts.specs.declared.line_answer.LineAnswer.TheVariants as answer
use Rattle.reply_texts.specs.declared.steps.UnlockedAnswer.{UnlockedAnswer}
use Rattle.reply_texts.specs.declared.steps.UnlockedAnswer.TheVariants as unlocked
use Rattle.script_lines.specs.declared.line.Command.{Command}
use Rattle.script_lines.specs.declared.line.Command.TheVariants as command
use Rattle.script_replay.specs.Answers.{AnswersUnlocked, AnswersCommand, ServesUnlocked, CanNotList, IsServedUnderLock, IsTriedInVain, OnlySaw, OnlyWatched}
use Rattle.script_replay.specs.Answers.{changes_in, steps_unlocked}
use Rattle.script_replay.proofs.Gaining.{saw_none}

-- ---- what is tried in vain

fast_same : (g : ℕ) (answer : FastAnswer) (last : Stock) (c : KnownCpuLists) (last' : Stock) (d : KnownCpuLists) → FastAnswers g answer last c last' d
    → ((f : ℕ) → answer ≢ Got f) → d ≡ c
fast_same g FreshFull last c last' d is none = is.1.1
fast_same g ListEmpty last c last' d is none = is.2.1
fast_same g OtherGroup last c last' d is none = is.2.1
fast_same g Drained last c last' d is none = is.2.1
fast_same g NoStock last c last' d is none = is.2.1
fast_same g (Got f) last c last' d is none = absurd (none f refl)

list_same : (f : ℕ) (c d : CpuInRun) → CanNotList f c d → d.part ≡ c.part
list_same f c d (inl is) = is.stays.1
list_same f c d (inr is) = is.drained.1

-- what was tried in vain without the lock left the part
pub vain_same : (command : Command) (before : LockedState) (d : CpuInRun) → IsTriedInVain command before d → d.part ≡ before.cpu.part
vain_same (command.Alloc path zero) before d is = fast_same is.group is.fast before.cpu.last before.cpu.part d.last d.part is.answers is.none
vain_same (command.Release f) before d is = list_same f before.cpu d is
vain_same (command.Fast g) before d is = absurd is
vain_same (command.Get f) before d is = absurd is
vain_same (command.Put f) before d is = absurd is
vain_same command before d is = is.1

-- ---- what the pasts of two machines leave

-- but for who holds the lock
held_same : (s u : State) (hold : Hold) → s ≡ record u { hold = hold } → s ≡ record u { hold = s.hold }
held_same s u hold is = is ∙ ap (λ (x : State). record u { hold = x.hold }) (sym is)

leave_same : (t : KnownTable) (m n : KnownMachine) → left_by t n.run.past ≡ left_by t m.run.past → LeaveTheSame t m n
leave_same t m n left = held_same (left_by t n.run.past) (left_by t m.run.past) (left_by t m.run.past).hold left

-- the run that shows a machine shows it with another watch too
pub shows_watched : (t : KnownTable) (run : Run) (m : KnownMachine) (cpus : List KnownCpuLists) (watch : KnownWatch) → ShowsAll t run m cpus
    → ShowsAll t run (with_watch m watch) cpus
shows_watched t run m cpus watch shows = the_same_is_shown t run m (with_watch m watch) cpus shows (leave_same t m (with_watch m watch) refl)

-- nothing was taken if nothing changed
not_watched : (t : KnownTable) (before after : KnownLocked) → after ≡ before → OnlySaw t [] before after
not_watched t before after same = subst (OnlySaw t [] before) (sym same) (saw_none t before)

-- ---- one part of the whole

module _ (t : KnownTable) (run : Run) (locked : KnownLocked) (cpus : List KnownCpuLists) (k : ℕ) (c : CpuInRun)
    (shows : ShowsAll t run locked.machine cpus) (is_part : slice_get cpus k ≡ Some c.part) where
  abbrev m : KnownMachine
  m = locked.machine

  abbrev p : ℕ
  p = c.part.number

  abbrev before : LockedState
  before = locked_state locked c

  -- these steps lead the whole to this holder, and its ledger has their peaks and event counts
  abbrev Follows : Run → LockedState → Type 0
  Follows steps after = GoesOnTo t run m (run ++ steps) after.locked.machine (slice_set cpus k after.cpu.part)

  -- the run that goes on with these steps is legal
  abbrev IsLegalOn : Run → Type 0
  IsLegalOn steps = IsLegalRun (zone_of_boot t) (run ++ steps)

  -- nothing that is seen changed
  unseen_follows : (after : LockedState) → OnlySaw t [] locked after.locked → after.cpu.part ≡ c.part → Follows [] after
  unseen_follows after kept same =
      let n = after.locked.machine in
      let here = the_same_is_shown t run m n cpus shows (leave_same t m n kept.left) in
      let was = shows.each k c.part is_part in
      let still : ShowsAll t run n (slice_set cpus k c.part) = record {
        legal = here.legal;
        free = here.free;
        left = here.left;
        count = length-set cpus k c.part ∙ here.count;
        each = parts_after (state_of (zone_of_boot t) run) cpus k c.part c.part is_part was.number was.own (λ j e at ne. shows.each j e at);
      } in record {
        shows = subst (λ (x : Run × KnownCpuLists). ShowsAll t x.0 n (slice_set cpus k x.1)) (λ i. (sym (append-nil run) i, sym same i)) still;
        agrees = λ told. subst (λ (x : Run × Ledger). AgreesWithRun t x.0 x.1)
            (λ i. (sym (append-nil run) i, ap (λ (l : KnownLocked). l.machine.ledger) (sym kept.locked) i)) told;
      }

  -- served under the lock, by a CPU with this part, which found behind the lock what the run shows
  served_follows : (seen : CpuInRun) → seen.part ≡ c.part → (found : KnownLocked) → left_by t found.machine.run.past ≡ left_by t m.run.past
      → found.machine.ledger ≡ m.ledger → (cmd : LockedCommand) (reply : Outcome) (after : LockedState) → (is : IsServed t cmd reply (locked_state found seen) after)
      → IsLegalOn (under_lock seen.part.number is.steps) → Follows (under_lock seen.part.number is.steps) after
  served_follows seen same found left ledger cmd reply after is legal =
      let n = after.locked.machine in
      let d = after.cpu.part in
      let first : VisitState = visit_state (with_run found.machine is.found) seen.part in
      let last : VisitState = visit_state (with_run n is.left) d in
      let locks : left_by t is.found.past ≡ record (left_by t m.run.past) { hold = (left_by t is.found.past).hold } =
      held_same (left_by t is.found.past) (left_by t m.run.past) (HeldBy (own_past seen.past).number)
      (is.taken.locks.found ∙ ap (λ (s : State). record s { hold = HeldBy (own_past seen.past).number }) left) in
      let shown : ShowsAll t run first.machine cpus = the_same_is_shown t run m first.machine cpus shows locks in
      let taken : HasTakenLock t cpus k first = record { is_part = is_part ∙ ap Some (sym same); holds = is.taken.holds; shut = is.taken.shut } in
      let frees : left_by t n.run.past ≡ record (left_by t is.left.past) { hold = Unheld } =
      unlocked_found t last.machine d n.run.past (seat_of after.cpu) is.released.holds is.released.unlocks in
      let goes = lines_follow t run cpus k first is.steps last shown (record { taken = taken; leads = is.makes; holds = is.released.holds }) legal in record {
        shows = the_same_is_shown t (run ++ under_lock seen.part.number is.steps) last.machine n (slice_set cpus k d) goes.shows
            (held_same (left_by t n.run.past) (left_by t is.left.past) Unheld frees);
        agrees = λ told. goes.agrees (subst (AgreesWithRun t run) (sym ledger) told);
      }

  -- the same, after the watch took more steps
  watched_follows : (steps more : Run) (left : KnownLocked) (after : LockedState) → OnlyWatched more left after.locked
      → Follows steps (locked_state left after.cpu) → Follows steps after
  watched_follows steps more left after only follows =
      let n = after.locked.machine in record {
        shows = the_same_is_shown t (run ++ steps) left.machine n (slice_set cpus k after.cpu.part) follows.shows
            (leave_same t left.machine n (ap (λ (l : KnownLocked). left_by t l.machine.run.past) only.locked));
        agrees = λ told. subst (AgreesWithRun t (run ++ steps)) (sym (ap (λ (l : KnownLocked). l.machine.ledger) only.locked)) (follows.agrees told);
      }

  -- a step without the lock
  step_follows : (action : Action) (answer : StepAnswer) (after : LockedState) → OnlySaw t (cpu_makes p action answer ∷ []) locked after.locked
      → IsFast action → IsOwnStep (state_of (zone_of_boot t) run) c.part action answer after.cpu.part
      → IsLegalOn (cpu_makes p action answer ∷ []) → Follows (cpu_makes p action answer ∷ []) after
  step_follows action answer after kept fast leads legal =
      let to : VisitState = visit_state after.locked.machine after.cpu.part in
      fast_lines_follow t run cpus k (visit_state m c.part) action answer to shows (record {
        is_part = is_part;
        fast = fast;
        machine = ap (λ (l : KnownLocked). l.machine) kept.locked;
        left = leave_same t m to.machine kept.left;
        leads = leads;
      }) legal

  this_part : IsPart t run m cpus k c.part
  this_part = record { shows = shows; is_part = is_part }

  -- the steps are those that were made
  as_made : (steps made : Run) (after : LockedState) → steps ≡ made → (IsLegalOn made → Follows made after) → IsLegalOn steps → Follows steps after
  as_made steps made after are follows legal = subst (λ (r : Run). Follows r after) (sym are) (follows (subst IsLegalOn are legal))

  got_follows : (g f : ℕ) (after : LockedState) → FastAnswers g (Got f) c.last c.part after.cpu.last after.cpu.part
      → OnlySaw t (cpu_makes p (step.Consume g) step_answer.Took ∷ []) locked after.locked
      → IsLegalOn (cpu_makes p (step.Consume g) step_answer.Took ∷ []) → Follows (cpu_makes p (step.Consume g) step_answer.Took ∷ []) after
  got_follows g f after is kept legal =
      step_follows (step.Consume g) step_answer.Took after kept tt
      (fast_calls_lead.got t run m cpus k c.part after.cpu.part this_part g f c.last after.cpu.last is) legal

  put_follows : (f : ℕ) (answer : Put) (after : LockedState) → UnpinAnswers f answer c.part after.cpu.part
      → OnlySaw t (cpu_makes p (step.Put f) (put_answer answer) ∷ []) locked after.locked → IsLegalOn (cpu_makes p (step.Put f) (put_answer answer) ∷ [])
      → Follows (cpu_makes p (step.Put f) (put_answer answer) ∷ []) after
  put_follows f answer after is kept legal =
      step_follows (step.Put f) (put_answer answer) after kept tt (fast_calls_lead.is_put t run m cpus k c.part after.cpu.part this_part f answer is) legal

  -- without the lock
  unlocked_follows : (command : Command) (said : UnlockedAnswer) (after : LockedState) → AnswersUnlocked command c after.cpu said
      → OnlySaw t (changes_in (steps_unlocked p command said)) locked after.locked → IsLegalOn (changes_in (steps_unlocked p command said))
      → Follows (changes_in (steps_unlocked p command said)) after
  unlocked_follows (command.Fast g) (unlocked.Fast (Got f)) after is kept legal = got_follows g f after is kept legal
  unlocked_follows (command.Fast g) (unlocked.Fast fast) after is kept legal =
      unseen_follows after kept (fast_same g fast c.last c.part after.cpu.last after.cpu.part is (λ f e. cc))
  unlocked_follows (command.Get f) (unlocked.Got Held) after is kept legal =
      step_follows (step.Get f) step_answer.Held after kept tt (fast_calls_lead.held t run m cpus k c.part after.cpu.part this_part f is.1) legal
  unlocked_follows (command.Get f) (unlocked.Got got) after is kept legal = unseen_follows after kept is.1
  unlocked_follows (command.Get f) (unlocked.Refused PinsFull) after is kept legal = unseen_follows after kept is.1.1
  unlocked_follows (command.Put f) (unlocked.Put (put.Left left)) after is kept legal = put_follows f (put.Left left) after is.1 kept legal
  unlocked_follows (command.Put f) (unlocked.Put put.Last) after is kept legal = put_follows f put.Last after is.1 kept legal
  unlocked_follows (command.Put f) (unlocked.Refused NotPinned) after is kept legal = unseen_follows after kept is.1.1
  unlocked_follows (command.Release f) unlocked.Listed after is kept legal =
      step_follows (step.Credit f) step_answer.Stocked after kept tt
      (fast_calls_lead.listed t run m cpus k c.part after.cpu.part this_part f c.last after.cpu.last is.listed) legal
  unlocked_follows command said after is kept legal = absurd is

  serves_unlocked_follows : (command : Command) (steps : Run) (after : LockedState) (said : UnlockedAnswer)
      → ServesUnlocked command (transition t before steps after) said → IsLegalOn steps → Follows steps after
  serves_unlocked_follows (command.Alloc path zero) steps after (unlocked.Fast (Got f)) is legal =
      as_made steps _ after is.takes_no_lock.steps_are (λ all. got_follows is.gets.group f after is.gets.got is.takes_no_lock.locked all) legal
  serves_unlocked_follows (command.Alloc path zero) steps after (unlocked.Refused NoGroup) none legal =
      as_made steps [] after none.1 (λ all. unseen_follows after (not_watched t locked after.locked none.0.same_locked)
      (ap (λ (x : CpuInRun). x.part) none.0.same_cpu)) legal
  serves_unlocked_follows (command.Alloc path zero) steps after said is legal = absurd is.0
  serves_unlocked_follows command steps after said is legal =
      as_made steps (changes_in (steps_unlocked p command said)) after is.1.steps_are (λ all. unlocked_follows command said after is.0 is.1.locked all) legal

  -- served under the lock
  locked_follows : (is_explained : Bool) (seen : LockedState) → OnlySaw t [] locked seen.locked → seen.cpu.part ≡ c.part → (command : Command)
      (answer : LineAnswer) (steps : Run) (after : LockedState) → IsServedUnderLock is_explained command answer (transition t seen steps after)
      → IsLegalOn steps → Follows steps after
  locked_follows is_explained seen saw same command answer steps after is legal =
      let served = is.answers.serves.visit in
      as_made steps (under_lock seen.cpu.part.number served.steps) after is.steps_are
      (λ all. watched_follows (under_lock seen.cpu.part.number served.steps) (cpu_makes seen.cpu.part.number step.Unlock step_answer.Done ∷ []) is.left after is.unlock
      (served_follows seen.cpu same is.found
      (ap (λ (l : KnownLocked). left_by t l.machine.run.past) is.lock.locked ∙ saw.left)
      (ap (λ (l : KnownLocked). l.machine.ledger) is.lock.locked ∙ ap (λ (l : KnownLocked). l.machine.ledger) saw.locked)
      is.answers.serves.served is.answers.serves.given (locked_state is.left after.cpu) served all)) legal

  pub answer_follows : (is_explained : Bool) (command : Command) (steps : Run) (after : LockedState) (answer : LineAnswer)
      → AnswersCommand is_explained command (transition t before steps after) answer → IsLegalOn steps → Follows steps after
  answer_follows is_explained command steps after (answer.Served outcome) is legal =
      locked_follows is_explained is.seen is.only_saw (vain_same command before is.seen.cpu is.tried) command (answer.Served outcome) steps after is.served legal
  answer_follows is_explained command steps after answer.Settled is legal =
      locked_follows is_explained before (saw_none t locked) refl command answer.Settled steps after is legal
  answer_follows is_explained command steps after (answer.Unlocked said) is legal = serves_unlocked_follows command steps after said is legal
