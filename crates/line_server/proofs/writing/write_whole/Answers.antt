-- Serves the contract of `write_whole`: what was taken so far is a beginning, and each write takes some more.
use Rattle.std.proofs.Common.{◌≤◌, ℕ, length, subst, sym, take}
use Rattle.std.proofs.KnownBytes.{Appends-kept}
use Rattle.std.specs.Io.KnownBytes.{Appends}
use Rattle.line_server.proofs.Written.{all_taken, taken_more, whole_begins}
use Rattle.line_server.proofs.writing.write_whole.Goals.{in-Ok, in-Err}
use Rattle.line_server.proofs.writing.write_whole.Goals as goal

pub loop-preserved : goal.loop-preserved
loop-preserved g c =
    let bytes = c.args.bytes.now in
    let at = c.args.writer.now in
    let So : ℕ → Type 0 = λ i. (i ≤ length bytes) × Appends (g.W.Write.contents at) (g.W.Write.contents c.write.new.self) (take i bytes) in
    elim c.match-write.branch [
      | in-Ok w ↦ subst So (sym w.taken-is) (taken_more _ _ _ bytes c.loop.taken w.in-Ok.n c.loop.invariant.0 c.loop.invariant.1
          w.in-Ok.ensures.bound w.in-Ok.ensures.bytes)
      | in-Err w ↦ subst So (sym w.taken-is) (c.loop.invariant.0, Appends-kept _ _ _ _ c.loop.invariant.1 w.in-Err.ensures.bytes)
    ]

pub returns-then-taken-bytes-clause-whole : goal.returns-then-taken-bytes-clause-whole
returns-then-taken-bytes-clause-whole g c = all_taken _ _ c.args.bytes.now c.loop.taken c.if-taken-bytes.true c.loop.invariant.1

pub returns-then-taken-bytes-clause-beginning : goal.returns-then-taken-bytes-clause-beginning
returns-then-taken-bytes-clause-beginning g c =
    whole_begins _ _ c.args.bytes.now (all_taken _ _ c.args.bytes.now c.loop.taken c.if-taken-bytes.true c.loop.invariant.1)
