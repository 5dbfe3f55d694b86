-- The log of lines and of the end. Serves `log_each`, `log_end`, `steps_on_boot`.
use Rattle.std.proofs.Common.{◌≡◌, ℕ, ◌+◌, ◌<◌, true, List, [], ◌∷◌, ◌++◌, Result, IfOk, OnOk, length, take, get_or, refl, sym, ap, ◌∙◌, subst}
use Rattle.std.proofs.Common.{append-nil, append_assoc}
use Rattle.std.proofs.lemmas.Result.{IfOk-weaker}
use Rattle.std.specs.Prelude.{codes}
use Rattle.step_rules.specs.After.{Run}
use Rattle.boot_words.specs.{zone_of_boot, KnownTable}
use Rattle.step_watch.specs.Watched.{IsNewLog, has_whole_log, log_text, steps_text}
use Rattle.script_lines.specs.declared.line.Line.{Line}
use Rattle.script_replay.specs.Lines.{HasRun, InOrder, RunGoesOn, SystemState}
use Rattle.script_replay.specs.Terms.{Terms, terms}
use Rattle.script_replay.proofs.InOrder.{in_order_line}
use Rattle.line_server.specs.Logs.{AddsPart, LogsLine, RenewsWatch, answer_comments}
use Rattle.line_server.proofs.Logged.{wrote_alone}
use Rattle.mem_system.specs.declared.audit.Audit.{Audit}
use Rattle.mem_system.specs.Ends.{Closes, KnownEmptiedBoot}
use Rattle.load_run.specs.Ending.{IsWholeRun, LeavesNothing, boot_end_text, last_words}
use Rattle.load_run.specs.Logs.{GrowsBy, LogsAll, LogsAllAndEnd, LogsEnd, LogsNext, steps_of_logs, text_of_line}
use Rattle.load_run.proofs.Whole.{whole_run}

-- ---- the lines so far

pub logs_more : (on : Terms) (texts : List (List ℕ)) (lines : List Line) (i : ℕ) (default : Line) (s m e : SystemState) (old mid new part : List ℕ)
    → i < length lines → GrowsBy (λ log. InOrder (LogsNext on texts) (take i lines) s m log) old mid
    → LogsNext on texts (get_or lines i default) m e part → new ≡ mid ++ part
    → GrowsBy (λ log. InOrder (LogsNext on texts) (take (i + 1) lines) s e log) old new
logs_more on texts lines i default s m e old mid new part inside so_far one added = record {
  text = so_far.text ++ part;
  so = in_order_line (LogsNext on texts) s m e lines i default so_far.text (so_far.text ++ part) inside so_far.so part one refl;
  added = added ∙ ap (λ (l : List ℕ). l ++ part) so_far.added ∙ append_assoc old so_far.text part;
}

-- the text of the line, as it was looked up
pub logs_text : (on : Terms) (texts : List (List ℕ)) (m e : SystemState) {line : Line} {part : List ℕ} (l : List ℕ)
    → l ≡ text_of_line texts line → LogsLine on l line m e part → LogsNext on texts line m e part
logs_text on texts m e {line} {part} l is one = subst (λ (x : List ℕ). LogsLine on x line m e part) is one

-- ---- the end

module _ {T E : Type 0} (r : Result T E) (t : KnownTable) (before begun : SystemState) (held : ℕ) (emptied : KnownEmptiedBoot)
    (audit : Audit) (old new : List ℕ) (renews : RenewsWatch before begun) (leaves : LeavesNothing t begun held emptied) (closes : Closes t emptied audit) where
  abbrev report : List ℕ
  report = answer_comments (boot_end_text true (record { held = held; audit = audit }))

  -- the boot ended; the log of that was added, as far as the call succeeded
  pub end_part : IfOk r (λ _. new ≡ old ++ (codes "# end\n" ++ (steps_text leaves.steps ++ report))) → AddsPart r old new (LogsEnd t before)
  end_part added = record {
    part = codes "# end\n" ++ (steps_text leaves.steps ++ report);
    so = record {
      begun = begun;
      renews = renews;
      ended = record { held = held; audit = audit };
      ends = record { emptied = emptied; leaves = leaves; closes = closes };
      log_is = refl;
    };
    added = added;
  }

  pub end_logged : (both : List ℕ) → has_whole_log emptied.machine.run.watch ≡ true → both ≡ old ++ (codes "# end\n" ++ log_text emptied.machine.run.watch)
      → OnOk r (new ≡ both ++ report) → AddsPart r old new (LogsEnd t before)
  end_logged both whole is_both added =
      let front = codes "# end\n" in
      let made = steps_text leaves.steps in
      let last = emptied.machine.run.watch in
      let is_new : IsNewLog begun.locked.machine.run.watch = subst IsNewLog (sym (ap (λ (x : SystemState). x.locked.machine.run.watch) renews.begun_is)) renews.is_new in
      let wrote : log_text last ≡ made = wrote_alone begun.locked.machine.run.watch leaves.steps last is_new leaves.watched whole in
      end_part (IfOk-weaker r _ _ (λ done is. is ∙ ap (λ (l : List ℕ). l ++ report) (is_both ∙ ap (λ (l : List ℕ). old ++ (front ++ l)) wrote)
      ∙ append_assoc old (front ++ made) report ∙ ap (λ (l : List ℕ). old ++ l) (append_assoc front made report)) added)

-- ---- both

pub both_logged : (t : KnownTable) (texts : List (List ℕ)) (lines : List Line) (s e : SystemState) (old mid new part : List ℕ)
    → GrowsBy (LogsAll (terms t true) texts lines s e) old mid → LogsEnd t e part → new ≡ mid ++ part
    → GrowsBy (LogsAllAndEnd t texts lines s) old new
both_logged t texts lines s e old mid new part served ends added = record {
  text = served.text ++ part;
  so = record {
    end = e;
    served_log = served.text;
    served = served.so;
    ending = part;
    ends = ends;
    log_is = refl;
  };
  added = added ∙ ap (λ (l : List ℕ). l ++ part) served.added ∙ append_assoc old served.text part;
}

-- the run so far goes on by the lines of a log; a new watch changes no past
pub logs_go_on : (on : Terms) (texts : List (List ℕ)) (lines : List Line) (s e : SystemState) (log : List ℕ) (logs : LogsAll on texts lines s e log)
    → RunGoesOn (steps_of_logs on texts lines s e log logs) s e
logs_go_on on texts [] s e log logs = λ earlier has.
    subst (λ (x : SystemState). HasRun (earlier ++ []) x) (sym logs.1) (subst (λ (r : Run). HasRun r s) (sym (append-nil earlier)) has)
logs_go_on on texts (line ∷ lines) s e log logs = λ earlier has.
    let first = logs.serves_first in
    let steps : Run = first.serves.steps in
    let rest : Run = steps_of_logs on texts lines logs.between e logs.rest logs.serves_rest in
    let begun : HasRun earlier first.begun = subst (HasRun earlier) (sym first.renews.begun_is) has in
    subst (λ (r : Run). HasRun r e) (append_assoc earlier steps rest)
    (logs_go_on on texts lines logs.between e logs.rest logs.serves_rest (earlier ++ steps) (first.serves.goes_on earlier begun))

-- all steps of a log and of its end are those of a whole run
pub logs_whole : (t : KnownTable) (texts : List (List ℕ)) (lines : List Line) (s : SystemState) (log : List ℕ) → HasRun [] s
    → (logs : LogsAllAndEnd t texts lines s log)
    → IsWholeRun (zone_of_boot t) (last_words logs.ends.ends.closes)
    (steps_of_logs (terms t true) texts lines s logs.end logs.served_log logs.served ++ logs.ends.ends.leaves.steps)
logs_whole t texts lines s log has logs =
    let run : Run = steps_of_logs (terms t true) texts lines s logs.end logs.served_log logs.served in
    let led : HasRun run logs.end = logs_go_on (terms t true) texts lines s logs.end logs.served_log logs.served [] has in
    let begun : HasRun run logs.ends.begun = subst (HasRun run) (sym logs.ends.renews.begun_is) led in
    whole_run t run logs.ends.begun logs.ends.ended begun logs.ends.ends
