use Rattle.std.proofs.Common.{◌+◌, ◌/◌, ◌^◌, ◌∙◌, arith}
use Rattle.zone_blocks.proofs.Pairing.{bits_of_none, pushed_bits, pushed_none}
use Rattle.zone_blocks.proofs.pairs.new_pairs.Goals as goal

pub loop-exponent-preserved : goal.loop-exponent-preserved
loop-exponent-preserved c =
    let h = c.loop-exponent.invariant in
    record {
      count = omega arith;
      spare = c.push_reserved.ensures.capacity ∙ h.spare;
      each = pushed_bits (λ k. c.args.frames / 2 ^ (k + 1)) c.loop-exponent.exponent c.loop-exponent.pairs.items c.push_reserved.new.self.items
          c.in_ok-bits.bits h.count c.in_ok-bits.ensures
          c.push_reserved.ensures.items h.each;
      none = pushed_none _ c.loop-exponent.exponent c.loop-exponent.pairs.items c.push_reserved.new.self.items c.in_ok-bits.bits h.count c.in_ok-bits.ensures
          c.push_reserved.ensures.items h.none;
    }

pub returns : goal.returns
returns c =
    bits_of_none c.args.frames c.loop-exponent.pairs.items record { count = omega arith; each = λ k l. c.loop-exponent.invariant.each k (omega arith) }
    (λ k i l. c.loop-exponent.invariant.none k i (omega arith))
