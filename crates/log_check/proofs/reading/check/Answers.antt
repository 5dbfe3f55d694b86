-- Serves the contract of `check`: each read takes one more piece, up to the end or until the answer is known.
use Rattle.std.proofs.Common.{◌∙◌, ◌≡◌, ◌<◌, ◌≤◌, ◌++◌, ℕ, IfSome, Option, length, rules, subst, sym, take}
use Rattle.std.specs.Io.KnownBytes.{Consumes}
use Rattle.log_check.specs.declared.verdict.LogVerdict.{LogVerdict}
use Rattle.log_check.specs.declared.reader.LogReader.{LogReader}
use Rattle.log_check.specs.{HasRoomForLine, ReadsOrJudges, NamesLineAfter}
use Rattle.log_check.proofs.Exact.{exact_if}
use Rattle.log_check.proofs.Parts.{IsReadTo, all_far, all_read, ended, ended_far, kept, more}
use Rattle.log_check.proofs.reading.check.Goals.{in-Ok+in_ok-end-in-Ok+in_default, in-Err}
use Rattle.log_check.proofs.reading.check.Goals as goal

pub returns-in-Ok-eq0-clause-verdict : goal.returns-in-Ok-eq0-clause-verdict
returns-in-Ok-eq0-clause-verdict g c =
    let before = g.I.Read.remaining c.loop.input in
    let after = g.I.Read.remaining c.read.new.self in
    let buf = c.read.new.buf in
    let some : 0 < length buf = search rules in
    let bytes = rw c.in-Ok-eq0.is at c.read.ensures.bytes in
    all_read c.args.is_all (g.I.Read.remaining c.args.input.now) before after c.loop.log c.end.result c.loop.invariant.1 c.loop.invariant.2
    (subst (λ (n : ℕ). Consumes before after (take n buf)) c.in-Ok-eq0.field-0-test bytes.0) (bytes.1 c.in-Ok-eq0.field-0-test some) c.end.ensures.verdict

pub returns-in-Ok-eq0-clause-taken : goal.returns-in-Ok-eq0-clause-taken
returns-in-Ok-eq0-clause-taken g c =
    let before = g.I.Read.remaining c.loop.input in
    let after = g.I.Read.remaining c.read.new.self in
    let buf = c.read.new.buf in
    let some : 0 < length buf = search rules in
    let bytes = rw c.in-Ok-eq0.is at c.read.ensures.bytes in
    all_far (g.I.Read.remaining c.args.input.now) before after c.loop.log c.end.result c.loop.invariant.2 c.loop.invariant.0
    (subst (λ (n : ℕ). Consumes before after (take n buf)) c.in-Ok-eq0.field-0-test bytes.0) (bytes.1 c.in-Ok-eq0.field-0-test some) c.end.ensures.line

pub returns-in-Ok-eq0-clause-exact : goal.returns-in-Ok-eq0-clause-exact
returns-in-Ok-eq0-clause-exact g c =
    exact_if c.args.is_all (g.I.Read.remaining c.args.input.now) c.end.result (returns-in-Ok-eq0-clause-verdict g c)

pub returns-in-Some-clause-verdict : goal.returns-in-Some-clause-verdict
returns-in-Some-clause-verdict g c =
    let piece = take c.in-Ok.n c.read.new.buf in
    ended c.args.is_all (g.I.Read.remaining c.args.input.now) (g.I.Read.remaining c.loop.input) (g.I.Read.remaining c.read.new.self) c.loop.log
    c.take_bytes.new.self piece c.in-Some.end (c.in_ok-end-in-Ok.ensures.all ∙ c.loop.invariant.1) c.loop.invariant.2 c.in-Ok.ensures.bytes.0
    (λ before h. subst (λ (e : Option LogVerdict). ReadsOrJudges (before ++ piece) c.take_bytes.new.self e) c.in-Some.is (c.in_ok-end-in-Ok.ensures.read before h))

pub returns-in-Some-clause-exact : goal.returns-in-Some-clause-exact
returns-in-Some-clause-exact g c =
    exact_if c.args.is_all (g.I.Read.remaining c.args.input.now) c.in-Some.end (returns-in-Some-clause-verdict g c)

pub returns-in-Some-clause-taken : goal.returns-in-Some-clause-taken
returns-in-Some-clause-taken g c =
    let piece = take c.in-Ok.n c.read.new.buf in
    let short : length piece ≤ 4096 = search rules in
    ended_far (g.I.Read.remaining c.args.input.now) (g.I.Read.remaining c.loop.input) (g.I.Read.remaining c.read.new.self) c.loop.log piece c.in-Some.end
    c.loop.invariant.2 c.loop.invariant.0 c.in-Ok.ensures.bytes.0 short
    (subst (λ (e : Option LogVerdict). IfSome e (NamesLineAfter c.loop.log.lines)) c.in-Some.is c.in_ok-end-in-Ok.ensures.line)

pub loop-preserved : goal.loop-preserved
loop-preserved g c =
    let input = g.I.Read.remaining c.args.input.now in
    let before = g.I.Read.remaining c.loop.input in
    let after = g.I.Read.remaining c.read.new.self in
    let So : LogReader → Type 0 = λ log. HasRoomForLine log × (log.is_all ≡ c.args.is_all) × IsReadTo input after log in
    elim c.match-read.branch [
      | in-Ok+in_ok-end-in-Ok+in_default w ↦
          let piece = take w.in-Ok.n c.read.new.buf in
          subst So (sym w.log-is) (
            w.in_ok-end-in-Ok.ensures.fits,
            w.in_ok-end-in-Ok.ensures.all ∙ c.loop.invariant.1,
            more input before after c.loop.log w.take_bytes.new.self piece c.loop.invariant.2 w.in-Ok.ensures.bytes.0
                (λ text h. subst (λ (e : Option LogVerdict). ReadsOrJudges (text ++ piece) w.take_bytes.new.self e) w.in_default.is (w.in_ok-end-in-Ok.ensures.read text h)),
          )
      | in-Err w ↦ subst So (sym w.log-is) (
        c.loop.invariant.0,
        c.loop.invariant.1,
        kept input before after c.loop.log c.loop.invariant.2 w.in-Err.ensures.bytes,
      )
    ]
