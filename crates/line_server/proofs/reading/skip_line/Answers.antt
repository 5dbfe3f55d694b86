-- Serves the contract of `skip_line`: the line goes on, up to a line feed or to the end.
use Rattle.std.proofs.Common.{ℕ, [], ◌∷◌, ◌++◌, refl, subst}
use Rattle.std.specs.Io.KnownBytes.{Consumes}
use Rattle.line_server.specs.Streams.{TakesByte}
use Rattle.line_server.proofs.Bytes.{drops_after, drops_end, drops_feed, read_more}
use Rattle.line_server.proofs.reading.skip_line.Goals as goal

pub returns-in_default : goal.returns-in_default
returns-in_default g c =
    let before = g.I.Read.remaining c.loop.input in
    let after = g.I.Read.remaining c.next_byte.new.input in
    let read = subst (TakesByte before after) c.in_default.is c.in_ok-byte.ensures in
    drops_after _ before after c.loop.invariant.0 c.loop.invariant.1 (drops_end before after read.0 read.1)

pub returns-then-byte-eq10 : goal.returns-then-byte-eq10
returns-then-byte-eq10 g c =
    let before = g.I.Read.remaining c.loop.input in
    let after = g.I.Read.remaining c.next_byte.new.input in
    let read = subst (TakesByte before after) c.in-Some.is c.in_ok-byte.ensures in
    drops_after _ before after c.loop.invariant.0 c.loop.invariant.1
    (drops_feed before after (subst (λ (b : ℕ). Consumes before after (b ∷ [])) c.if-byte-eq10.true read))

pub loop-preserved : goal.loop-preserved
loop-preserved g c =
    let before = g.I.Read.remaining c.loop.input in
    let after = g.I.Read.remaining c.next_byte.new.input in
    let read = subst (TakesByte before after) c.in-Some.is c.in_ok-byte.ensures in
    (c.loop.invariant.0 ++ c.in-Some.byte ∷ [], read_more _ before after _ _ c.in-Some.byte c.loop.invariant.1 read c.if-byte-eq10.false refl)
