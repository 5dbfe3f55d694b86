-- A read under the lock is what the home's read answers. Serves `Home::read`.
use Rattle.std.proofs.Common.{◌≡◌, ◌≢◌, ◌⊎◌, ℕ, List, inl, inr, refl, subst, sym, ◌∙◌}
use Rattle.std.specs.Borrow.{Bor}
use Rattle.group_tree.specs.declared.fault.Fault.{Fault}
use Rattle.group_tree.specs.declared.fault.Fault.TheVariants.{WriteOnly}
use Rattle.group_tree.specs.declared.group.Group.{Group}
use Rattle.control_files.specs.declared.file.File.{File}
use Rattle.control_files.specs.declared.file.File.TheVariants.{Current, Max, High, Low, Min, Peak, Events, EventsLocal, OomGroup, Reclaim, Stat}
use Rattle.control_files.specs.declared.stat.MemoryStat.{MemoryStat}
use Rattle.mem_machine.specs.{KnownMachine, VisitState, visit_state}
use Rattle.mem_system.specs.Commands.{Transition, transition}
use Rattle.mem_system.specs.declared.command.LockedCommand.{LockedCommand}
use Rattle.mem_system.specs.declared.command.LockedCommand.TheVariants as cmd
use Rattle.mem_system.specs.declared.outcome.Outcome.{Outcome}
use Rattle.mem_system.specs.declared.outcome.Outcome.TheVariants as outcome
use Rattle.mem_system.specs.declared.text_command.TextCommand.{TextCommand}
use Rattle.mem_system.specs.declared.text_command.TextCommand.TheVariants.{Read}
use Rattle.mem_system.specs.TextCommands.{RefusesByText, ServesText, StandsFor}
use Rattle.mem_system.specs.{Executes, LockedState, read_outcome}
use Rattle.zone_blocks.specs.declared.config.Config.{Config}
use Rattle.boot_words.specs.Tables.{KnownTable}
use Rattle.zone_threads.specs.declared.calls.ReadCall.{ReadCall}
use Rattle.zone_threads.specs.declared.calls.ReadAnswer.{ReadAnswer}
use Rattle.zone_threads.specs.declared.calls.ReadAnswer.TheVariants as read
use Rattle.zone_threads.specs.declared.calls.Call.TheVariants.{ReadPages}
use Rattle.zone_threads.specs.declared.calls.CallAnswer.{CallAnswer}
use Rattle.zone_threads.specs.declared.calls.CallAnswer.TheVariants as answer
use Rattle.zone_threads.specs.declared.calls.GroupPages.{GroupPages}
use Rattle.zone_threads.specs.Calling.{ReadsPages}
use Rattle.zone_threads.specs.{AnswersRead, Calls, KnownHome, ReadsBehind, UnderLock}

-- ---- a Read is refused, or shows a text

-- a file shows memory.stat or another text, or it can't be read
shows : (m : KnownMachine) (g : ℕ) (file : File)
    → ((sums : MemoryStat) × (read_outcome m g file ≡ outcome.Stat sums)) ⊎ (read_outcome m g file ≡ outcome.Text g file) ⊎ (read_outcome m g file ≡ outcome.Refused WriteOnly)
shows m g Current = inr (inl refl)
shows m g Max = inr (inl refl)
shows m g High = inr (inl refl)
shows m g Low = inr (inl refl)
shows m g Min = inr (inl refl)
shows m g Peak = inr (inl refl)
shows m g Events = inr (inl refl)
shows m g EventsLocal = inr (inl refl)
shows m g OomGroup = inr (inl refl)
shows m g Reclaim = inr (inr refl)
shows m g Stat = inl (_, refl)

module _ (given : Outcome) (refused : (why : Fault) → given ≢ outcome.Refused why) (stat : (sums : MemoryStat) → given ≢ outcome.Stat sums)
    (text : (g : ℕ) (file : File) → given ≢ outcome.Text g file) where
  read_by_number : (groups : List Group) (path name : Bor (List ℕ)) (c : LockedCommand) (sizes : Config) (call : Transition VisitState)
      → StandsFor groups (Read path name) c → Executes sizes c given call → ⊥
  read_by_number groups path name (cmd.Read g file) sizes call stands does = elim (shows call.before.machine g file) [
    | inl sums ↦ stat sums.0 (does.0 ∙ sums.1)
    | inr other ↦ elim other [
      | inl is ↦ text g file (does.0 ∙ is)
      | inr is ↦ refused WriteOnly (does.0 ∙ is)
    ]
  ]
  read_by_number groups path name other sizes call stands does = absurd stands

  pub read_shows : (t : KnownTable) (path name : Bor (List ℕ)) (before after : LockedState) → ServesText t (Read path name) given before after → ⊥
  read_shows t path name before after served = elim served.stands [
    | inl is ↦
        let visit = served.visit.serves in
        let call = transition t visit.settled visit.inner (visit_state visit.done after.cpu.part) in
        read_by_number before.locked.machine.ledger.groups path name served.served before.locked.sizes call is.0
        (subst (λ (o : Outcome). Executes before.locked.sizes served.served o call) (sym is.1) visit.executes)
    | inr none ↦ none_given before.locked.machine.ledger.groups (Read path name) given none.0 refused
  ]
    where
      none_given : (groups : List Group) (command : TextCommand) (o : Outcome) → RefusesByText groups command o → ((why : Fault) → o ≢ outcome.Refused why) → ⊥
      none_given groups command (outcome.Refused why) is not = not why refl
      none_given groups command other is not = absurd is

-- ---- the home's answers

pub answers_read : (t : KnownTable) (asked : ReadCall) (before after : KnownHome) (answer : ReadAnswer)
    → UnderLock (ReadsBehind t asked answer) before after → AnswersRead t asked before after answer
answers_read t asked before after read.Busy done = absurd done.done
answers_read t asked before after (read.Text text) done = done
answers_read t asked before after (read.Refused fault) done = done

pub answers_pages : (t : KnownTable) (group : ℕ) (which : GroupPages) (before after : KnownHome) (said : CallAnswer)
    → UnderLock (ReadsPages t group which said) before after → Calls t (ReadPages group which) before after said
answers_pages t group which before after answer.Busy done = absurd done.done.so
answers_pages t group which before after other done = done
