-- The turns of a session go on with one run, and keep the promise. Serves `legal_turns_keep_it`; `load_run` cites this of
-- a session.
use Rattle.std.proofs.Common.{ℕ, ◌+◌, ◌++◌, true, List, [], ◌∷◌, Option, None, Some, append_assoc, refl, subst, sym}
use Rattle.std.specs.Prelude.{IfSome}
use Rattle.std.proofs.lemmas.Option.{none-some}
use Rattle.zone_blocks.specs.declared.config.Config.{Config}
use Rattle.step_rules.specs.After.{Run, IsLegalRun}
use Rattle.boot_words.specs.{zone_of_boot}
use Rattle.mem_machine.specs.{AgreesWithRun}
use Rattle.mem_history.specs.Whole.{ShowsAll}
use Rattle.mem_system.specs.Cpus.{parts_of}
use Rattle.script_lines.specs.declared.line.Line.{Line}
use Rattle.script_replay.specs.{KeepsPromise, HasRun, RunGoesOn, SystemState, terms}
use Rattle.script_replay.proofs.Following.{shows_watched}
use Rattle.script_replay.proofs.Gaining.{goes_on_none}
use Rattle.script_replay.proofs.Keeping.{Follows, follows_both, legal_first, line_follows, line_kept, nothing_follows}
use Rattle.line_server.specs.declared.form.SessionForm.{SessionForm}
use Rattle.line_server.specs.declared.form.SessionForm.TheVariants.{Answers, Steps}
use Rattle.line_server.specs.{SessionTerms, LegalTurnsKeepIt, steps_in_form, steps_of_turn, steps_of_turns, AnswersTurns, AnswersLine, ServesInForm}
use Rattle.line_server.specs.{Turn}

module _ (on : SessionTerms) where
  -- the run goes on to a longer one, which shows the state after, and then this holds too, if the ledger is that of the run
  abbrev GoesOn : Run → SystemState → Run → SystemState → Type 0 → Type 0
  GoesOn run s longer e Keeps = Follows on.table run s longer e × (AgreesWithRun on.table run s.locked.machine.ledger → Keeps)

  -- ---- a line that is served

  served_keeps : (form : SessionForm) (run : Run) (text : List ℕ) (line : Line) (s e : SystemState) (answer : List ℕ)
      → ShowsAll on.table run s.locked.machine (parts_of s.cpus) → (one : ServesInForm form on.table text line s e answer)
      → IsLegalRun (zone_of_boot on.table) (run ++ steps_in_form form on.table text line s e answer one)
      → GoesOn run s (run ++ steps_in_form form on.table text line s e answer one) e
      (KeepsPromise on.table (run ++ steps_in_form form on.table text line s e answer one) e)
  served_keeps (Answers is_explained) run text line s e answer shows one legal =
      let goes = line_follows (terms on.table is_explained) run line s e answer shows one legal in
      (goes, λ told. line_kept (terms on.table is_explained) run line s e answer one goes told)
  served_keeps Steps run text line s e answer shows logs legal =
      let begun = logs.begun in
      let is = logs.renews.begun_is in
      let shown : ShowsAll on.table run begun.locked.machine (parts_of begun.cpus) =
      subst (λ (x : SystemState). ShowsAll on.table run x.locked.machine (parts_of x.cpus)) (sym is)
      (shows_watched on.table run s.locked.machine (parts_of s.cpus) logs.renews.watch shows) in
      let was : AgreesWithRun on.table run s.locked.machine.ledger → AgreesWithRun on.table run begun.locked.machine.ledger =
      subst (λ (x : SystemState). AgreesWithRun on.table run x.locked.machine.ledger) (sym is) in
      let goes = line_follows (terms on.table true) run line begun e logs.answer shown logs.serves legal in (
        record { shows = goes.shows; agrees = λ told. goes.agrees (was told) },
        λ told. line_kept (terms on.table true) run line begun e logs.answer logs.serves goes (was told),
      )

  served_goes_on : (form : SessionForm) (text : List ℕ) (line : Line) (s e : SystemState) (answer : List ℕ)
      → (one : ServesInForm form on.table text line s e answer) → RunGoesOn (steps_in_form form on.table text line s e answer one) s e
  served_goes_on (Answers is_explained) text line s e answer one = one.goes_on
  served_goes_on Steps text line s e answer logs =
      λ earlier has. logs.serves.goes_on earlier (subst (HasRun earlier) (sym logs.renews.begun_is) has)

  -- ---- a turn

  turn_keeps : (sizes : Config) (run : Run) (number : ℕ) (text : Option (List ℕ)) (served : Option Line) (s e : SystemState) (answer : List ℕ)
      → ShowsAll on.table run s.locked.machine (parts_of s.cpus) → (one : AnswersLine on sizes number text served s e answer)
      → IsLegalRun (zone_of_boot on.table) (run ++ steps_of_turn on sizes number text served s e answer one)
      → GoesOn run s (run ++ steps_of_turn on sizes number text served s e answer one) e
      (IfSome served (λ line. KeepsPromise on.table (run ++ steps_of_turn on sizes number text served s e answer one) e))
  turn_keeps sizes run number None None s e answer shows one legal = (nothing_follows on.table run s e [] refl one.1 shows, λ told. tt)
  turn_keeps sizes run number None (Some line) s e answer shows one legal = absurd (none-some line (sym one.0))
  turn_keeps sizes run number (Some text) None s e answer shows one legal = (nothing_follows on.table run s e [] refl one.0 shows, λ told. tt)
  turn_keeps sizes run number (Some text) (Some line) s e answer shows one legal = served_keeps on.form run text line s e answer shows one.1 legal

  turn_goes_on : (sizes : Config) (number : ℕ) (text : Option (List ℕ)) (served : Option Line) (s e : SystemState) (answer : List ℕ)
      → (one : AnswersLine on sizes number text served s e answer) → RunGoesOn (steps_of_turn on sizes number text served s e answer one) s e
  turn_goes_on sizes number None served s e answer one = subst (RunGoesOn [] s) (sym one.1) (goes_on_none s)
  turn_goes_on sizes number (Some text) None s e answer one = subst (RunGoesOn [] s) (sym one.0) (goes_on_none s)
  turn_goes_on sizes number (Some text) (Some line) s e answer one = served_goes_on on.form text line s e answer one.1

-- ---- all turns

pub legal_turns_keep_it : LegalTurnsKeepIt
legal_turns_keep_it on sizes number [] s e answers run shows legal = (nothing_follows on.table run s e [] refl answers shows, λ told. tt)
legal_turns_keep_it on sizes number (turn ∷ turns) s e answers run shows legal =
    let mid = answers.0 in
    let one = steps_of_turn on sizes number turn.text turn.served s mid turn.answer answers.1 in
    let more = steps_of_turns on sizes (number + 1) turns mid e answers.2 in
    let first = turn_keeps on sizes run number turn.text turn.served s mid turn.answer shows answers.1 (legal_first on.table run one more legal) in
    let rest = legal_turns_keep_it on sizes (number + 1) turns mid e answers.2 (run ++ one) first.0.shows
    (subst (IsLegalRun (zone_of_boot on.table)) (sym (append_assoc run one more)) legal) in
    (follows_both on.table run s mid e one more first.0 rest.0, λ told. (first.1 told, rest.1 (first.0.agrees told)))

-- the run so far goes on by the lines of turns
pub turns_go_on : (on : SessionTerms) (sizes : Config) (number : ℕ) (turns : List Turn) (s e : SystemState)
    (answers : AnswersTurns on sizes number turns s e) → RunGoesOn (steps_of_turns on sizes number turns s e answers) s e
turns_go_on on sizes number [] s e answers = subst (RunGoesOn [] s) (sym answers) (goes_on_none s)
turns_go_on on sizes number (turn ∷ turns) s e answers = λ earlier has.
    let mid = answers.0 in
    let one = steps_of_turn on sizes number turn.text turn.served s mid turn.answer answers.1 in
    let more = steps_of_turns on sizes (number + 1) turns mid e answers.2 in
    subst (λ (r : Run). HasRun r e) (append_assoc earlier one more)
    (turns_go_on on sizes (number + 1) turns mid e answers.2 (earlier ++ one)
    (turn_goes_on on sizes number turn.text turn.served s mid turn.answer answers.1 earlier has))
