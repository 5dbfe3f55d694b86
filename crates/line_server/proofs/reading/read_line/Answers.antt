-- Serves the contract of `read_line`: the line ends among its first 1,024 bytes, or after them.
use Rattle.std.proofs.Common.{◌≡◌, ◌≤◌, ℕ, [], ◌∷◌, length, rules, subst}
use Rattle.std.specs.Io.KnownBytes.{Consumes}
use Rattle.line_server.specs.Streams.{TakesByte}
use Rattle.line_server.proofs.Bytes.{all_ended, drops_after, drops_end, drops_feed, ends_feed, ends_some, found_line, text_end}
use Rattle.line_server.proofs.reading.read_line.Goals as goal

pub returns-else-is_empty-clause-found : goal.returns-else-is_empty-clause-found
returns-else-is_empty-clause-found g c =
    let before = g.I.Read.remaining c.loop.input in
    let after = g.I.Read.remaining c.next_byte.new.input in
    let bytes = c.loop.line.items in
    let read = subst (TakesByte before after) c.in_default.is c.in_ok-byte.ensures in
    let short : length bytes ≤ 1024 = search rules in
    let some : 1 ≤ length bytes = search rules in
    found_line _ before bytes c.loop.invariant.0 short (ends_some before bytes some (text_end before read.1))

pub returns-else-is_empty-clause-rest : goal.returns-else-is_empty-clause-rest
returns-else-is_empty-clause-rest g c =
    let before = g.I.Read.remaining c.loop.input in
    let after = g.I.Read.remaining c.next_byte.new.input in
    let read = subst (TakesByte before after) c.in_default.is c.in_ok-byte.ensures in
    drops_after _ before after c.loop.line.items c.loop.invariant.0 (drops_end before after read.0 read.1)

pub returns-then-byte-eq10-clause-found : goal.returns-then-byte-eq10-clause-found
returns-then-byte-eq10-clause-found g c =
    let before = g.I.Read.remaining c.loop.input in
    let after = g.I.Read.remaining c.next_byte.new.input in
    let bytes = c.loop.line.items in
    let read = subst (TakesByte before after) c.in-Some.is c.in_ok-byte.ensures in
    let short : length bytes ≤ 1024 = search rules in
    found_line _ before bytes c.loop.invariant.0 short
    (ends_feed before after bytes (subst (λ (b : ℕ). Consumes before after (b ∷ [])) c.if-byte-eq10.true read))

pub returns-then-byte-eq10-clause-rest : goal.returns-then-byte-eq10-clause-rest
returns-then-byte-eq10-clause-rest g c =
    let before = g.I.Read.remaining c.loop.input in
    let after = g.I.Read.remaining c.next_byte.new.input in
    let read = subst (TakesByte before after) c.in-Some.is c.in_ok-byte.ensures in
    drops_after _ before after c.loop.line.items c.loop.invariant.0
    (drops_feed before after (subst (λ (b : ℕ). Consumes before after (b ∷ [])) c.if-byte-eq10.true read))

pub returns-clause-found : goal.returns-clause-found
returns-clause-found g c =
    let long : length c.loop.line.items ≡ 1024 = search rules in
    (all_ended c.end_line.result (g.I.Read.remaining c.args.input.now) (g.I.Read.remaining c.loop.input) (g.I.Read.remaining c.end_line.new.input)
    c.loop.line.items _ c.loop.invariant.0 long c.end_line.ensures).0

pub returns-clause-rest : goal.returns-clause-rest
returns-clause-rest g c =
    let long : length c.loop.line.items ≡ 1024 = search rules in
    (all_ended c.end_line.result (g.I.Read.remaining c.args.input.now) (g.I.Read.remaining c.loop.input) (g.I.Read.remaining c.end_line.new.input)
    c.loop.line.items c.end_line.new.line.items c.loop.invariant.0 long c.end_line.ensures).1
