-- Serves the contract of `end_line`: the log goes on with the line, or it is known what it is.
use Rattle.std.proofs.Common.{◌≡◌, ◌∙◌, ◌+◌, ap, inl, inr, subst, sym, List, ℕ}
use Rattle.std.proofs.lemmas.Result.{IfOk-weaker}
use Rattle.log_lines.specs.Line.{IsLogLineText}
use Rattle.log_check.specs.declared.reader.LogReader.{LogReader}
use Rattle.log_check.specs.declared.progress.Taken.{Taken}
use Rattle.log_check.specs.declared.progress.Taken.TheVariants.{Bad}
use Rattle.log_check.specs.Verdicts.{fault_of}
use Rattle.log_check.proofs.Bytes.{Judged, line_ended}
use Rattle.log_check.proofs.reader.LogReader.end_line.Goals.{in-Some+in_ok-taken-in-Some, in-None}
use Rattle.log_check.proofs.reader.LogReader.end_line.Goals as goal

pub returns-clause-read : goal.returns-clause-read
returns-clause-read c =
    let r = c.args.self.now in
    let now = c.match-parse_line.self in
    let m : LogReader = record now { line = c.clear.new.self } in
    let taken = c.match-parse_line.taken in
    let one : now.lines ≡ r.lines + 1 = elim c.match-parse_line.branch [
      | in-Some+in_ok-taken-in-Some w ↦ ap (λ (x : LogReader). x.lines) w.self-is
      | in-None w ↦ ap (λ (x : LogReader). x.lines) w.self-is
    ] in
    let all : now.is_all ≡ r.is_all = elim c.match-parse_line.branch [
      | in-Some+in_ok-taken-in-Some w ↦ ap (λ (x : LogReader). x.is_all) w.self-is
      | in-None w ↦ ap (λ (x : LogReader). x.is_all) w.self-is
    ] in
    let out : now.left_out ≡ r.left_out = elim c.match-parse_line.branch [
      | in-Some+in_ok-taken-in-Some w ↦ ap (λ (x : LogReader). x.left_out) w.self-is
      | in-None w ↦ ap (λ (x : LogReader). x.left_out) w.self-is
    ] in
    let judged : Judged r now.progress taken = elim c.match-parse_line.branch [
      | in-Some+in_ok-taken-in-Some w ↦
          let has : IsLogLineText r.line.items w.in-Some.line = subst (λ (x : List ℕ). IsLogLineText x w.in-Some.line) c.deref.ensures.value w.in-Some.ensures in
          subst (λ (t : Taken). Judged r now.progress t) (sym w.taken-is)
          (subst (λ (x : LogReader). Judged r x.progress w.in_ok-taken-in-Some.taken) (sym w.self-is)
          (inl (w.in-Some.line, has, w.in_ok-taken-in-Some.ensures.taken)))
      | in-None w ↦
          inr (w.taken-is ∙ ap Bad (w.of_text.ensures ∙ ap fault_of w.deref-in-None.ensures.value), λ l has. w.in-None.ensures l (subst (λ (x : List ℕ). IsLogLineText x l) (sym c.deref.ensures.value) has))
    ] in
    IfOk-weaker c.conclude.result _ _ (λ known concluded before h.
    line_ended before r m c.conclude.new.self taken known h judged c.clear.ensures.items one all out c.conclude.ensures.line concluded)
    c.conclude.ensures.concluded
