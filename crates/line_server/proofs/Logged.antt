-- A line's part of a log. Serves `log_line`, and `log_end` of `load_run`.
use Rattle.std.proofs.Common.{◌≡◌, ◌∙◌, ℕ, List, ◌++◌, Result, IfOk, ap, append_assoc, refl, subst, sym, true}
use Rattle.std.proofs.lemmas.Result.{IfOk-weaker}
use Rattle.mem_system.specs.{CpuInRun, KnownLocked}
use Rattle.step_rules.specs.After.{Run}
use Rattle.step_watch.specs.Watched.{IsNewLog, KnownWatch, Watches, has_whole_log, log_text, steps_text}
use Rattle.script_lines.specs.declared.line.Line.{Line}
use Rattle.script_replay.specs.{locked_with_watch, ServesLine, SystemState, system_state}
use Rattle.script_replay.specs.Terms.{Terms}
use Rattle.script_replay.proofs.Seeing.{line_seen}
use Rattle.line_server.specs.Logs.{AddsPart, LogsLine, RenewsWatch, answer_comments, line_comment, line_log}

-- a new watch was put behind the lock
pub renewed : (old new : KnownLocked) (cpus : List CpuInRun) (watch : KnownWatch) → IsNewLog watch → new ≡ locked_with_watch old watch
    → RenewsWatch (system_state old cpus) (system_state new cpus)
renewed old new cpus watch is_new is =
    record { watch = watch; is_new = is_new; begun_is = ap (λ (l : KnownLocked). system_state l cpus) is }

-- a new watch wrote the steps that it took, and no others
pub wrote_alone : (begun : KnownWatch) (steps : Run) (later : KnownWatch) → IsNewLog begun → Watches begun steps later → has_whole_log later ≡ true
    → log_text later ≡ steps_text steps
wrote_alone begun steps later new watched whole = (watched.wrote whole).added ∙ ap (λ (l : List ℕ). l ++ steps_text steps) new.none

line_watched : (on : Terms) (line : Line) (s e : SystemState) (answer : List ℕ) (one : ServesLine on line s e answer)
    → Watches s.locked.machine.run.watch one.steps e.locked.machine.run.watch
line_watched on line s e answer one = line_seen on.table on.is_explained line s one.steps e one.tells.plain one.tells.so

module _ {T E : Type 0} (r : Result T E) (on : Terms) (text : List ℕ) (line : Line) (before begun after : SystemState) (answer old new : List ℕ)
    (renews : RenewsWatch before begun) (serves : ServesLine on line begun after answer) where
  -- the line was served; its part was added, as far as the call succeeded
  pub line_part : IfOk r (λ _. new ≡ old ++ line_log text line serves.steps answer) → AddsPart r old new (LogsLine on text line before after)
  line_part added = record {
    part = line_log text line serves.steps answer;
    so = record { begun = begun; renews = renews; answer = answer; serves = serves; log_is = refl };
    added = added;
  }

  -- its comment, its steps and its answer were added
  pub line_logged : (front both told : List ℕ) → front ≡ old ++ line_comment text line → has_whole_log after.locked.machine.run.watch ≡ true
      → both ≡ front ++ log_text after.locked.machine.run.watch → told ≡ answer → IfOk r (λ _. new ≡ both ++ answer_comments told)
      → AddsPart r old new (LogsLine on text line before after)
  line_logged front both told is_front whole is_both is_told added =
      let named = line_comment text line in
      let made = steps_text serves.steps in
      let answered = answer_comments answer in
      let is_new : IsNewLog begun.locked.machine.run.watch = subst IsNewLog (sym (ap (λ (x : SystemState). x.locked.machine.run.watch) renews.begun_is)) renews.is_new in
      let wrote : log_text after.locked.machine.run.watch ≡ made = wrote_alone begun.locked.machine.run.watch serves.steps after.locked.machine.run.watch
      is_new (line_watched on line begun after answer serves) whole in
      line_part (IfOk-weaker r _ _ (λ done is. is ∙ ap (λ (l : List ℕ). both ++ answer_comments l) is_told
      ∙ ap (λ (l : List ℕ). l ++ answered) (is_both ∙ ap (λ (l : List ℕ). front ++ l) wrote ∙ ap (λ (l : List ℕ). l ++ made) is_front)
      ∙ append_assoc (old ++ named) made answered ∙ append_assoc old named (made ++ answered)) added)
