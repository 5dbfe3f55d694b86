-- Serves the contract of `read_script`: each read takes a piece more, up to the end or to what is wanted.
use Rattle.std.proofs.Common.{◌≡◌, ◌∙◌, ◌≤◌, ◌<◌, ◌+◌, ◌++◌, ℕ, List, ap, length, rules, subst, sym, take}
use Rattle.std.proofs.lemmas.List.{take-append-le}
use Rattle.std.specs.Io.KnownBytes.{Consumes}
use Rattle.load_run.proofs.Pieces.{ReadSoFar, read_all, read_end, read_full, read_kept, read_more, read_none}
use Rattle.load_run.proofs.reading.read_script.Goals.{in-Ok+in_ok-extend_from_slice-in-Ok, in-Err}
use Rattle.load_run.proofs.reading.read_script.Goals as goal

pub loop-init : goal.loop-init
loop-init g c = read_none _ _ c.new-script.ensures.items

pub returns-then-len-gt-MAX_INPUT-clause-read : goal.returns-then-len-gt-MAX_INPUT-clause-read
returns-then-len-gt-MAX_INPUT-clause-read g c =
    let full : 1048577 ≤ length c.loop.script.items = search rules in
    read_full _ _ _ c.loop.invariant full

pub returns-in-Ok-eq0-clause-read : goal.returns-in-Ok-eq0-clause-read
returns-in-Ok-eq0-clause-read g c =
    let before = g.I.Read.remaining c.loop.input in
    let after = g.I.Read.remaining c.read.new.self in
    let buf = c.read.new.buf in
    let some : 0 < length buf = search rules in
    let bytes = rw c.in-Ok-eq0.is at c.read.ensures.bytes in
    read_all _ before after _ buf c.loop.invariant (subst (λ (n : ℕ). Consumes before after (take n buf)) c.in-Ok-eq0.field-0-test bytes.0)
    (bytes.1 c.in-Ok-eq0.field-0-test some)

pub returns-in-Ok-eq0-clause-taken : goal.returns-in-Ok-eq0-clause-taken
returns-in-Ok-eq0-clause-taken g c =
    let before = g.I.Read.remaining c.loop.input in
    let after = g.I.Read.remaining c.read.new.self in
    let buf = c.read.new.buf in
    let bytes = rw c.in-Ok-eq0.is at c.read.ensures.bytes in
    read_end _ before after _ buf c.loop.invariant (subst (λ (n : ℕ). Consumes before after (take n buf)) c.in-Ok-eq0.field-0-test bytes.0)

pub loop-preserved : goal.loop-preserved
loop-preserved g c =
    let before = g.I.Read.remaining c.loop.input in
    let after = g.I.Read.remaining c.read.new.self in
    let So : List ℕ → Type 0 = λ bytes. ReadSoFar (g.I.Read.remaining c.args.input.now) after bytes in
    elim c.match-read.branch [
      | in-Ok+in_ok-extend_from_slice-in-Ok w ↦
          let few : length c.loop.script.items + w.in-Ok.n ≤ 1048577 = search rules in
          let within : w.in-Ok.n ≤ length c.read.new.buf = search rules in
          let items : w.extend_from_slice.new.self.items ≡ c.loop.script.items ++ take w.in-Ok.n c.read.new.buf =
          w.in_ok-extend_from_slice-in-Ok.ensures.items ∙ ap (λ (l : List ℕ). c.loop.script.items ++ l) (take-append-le w.in-Ok.n c.read.new.buf _ within) in
          subst (λ v. So v.items) (sym w.script-is) (read_more _ before after _ c.read.new.buf _ w.in-Ok.n c.loop.invariant w.in-Ok.ensures.bytes.0 few items)
      | in-Err w ↦ subst (λ v. So v.items) (sym w.script-is) (read_kept _ before after _ c.loop.invariant w.in-Err.ensures.bytes)
    ]
