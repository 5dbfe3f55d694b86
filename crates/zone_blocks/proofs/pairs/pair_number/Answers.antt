use Rattle.std.proofs.Common.{arith}
use Rattle.zone_blocks.proofs.Pairing.{number_of_pair}
use Rattle.zone_blocks.proofs.pairs.pair_number.Goals as goal

pub returns-then-number-frames : goal.returns-then-number-frames
returns-then-number-frames c =
    let o = c.in_ok-next.ensures in
    let e = c.exponent-exponent.ensures.exponent in
    let e' = c.exponent.ensures.exponent in
    (number_of_pair c.args.frames c.args.block.now c.exponent-exponent.result (omega (arith, o.0, e, e')) (omega (arith, o.0, o.1, e)) c.requires).0
    c.if-number-frames.true

pub returns-else-number-frames : goal.returns-else-number-frames
returns-else-number-frames c =
    let o = c.in_ok-next.ensures in
    let e = c.exponent-exponent.ensures.exponent in
    let e' = c.exponent.ensures.exponent in
    (number_of_pair c.args.frames c.args.block.now c.exponent-exponent.result (omega (arith, o.0, e, e')) (omega (arith, o.0, o.1, e)) c.requires).1
    (λ lt. absurd (omega (arith, lt, c.if-number-frames.false)))
