use Rattle.std.proofs.Common.{◌/◌, ◌^◌, ◌∙◌, [], inl, inr, arith}
use Rattle.std.proofs.lemmas.Bool.{cases_lt, false≢true}
use Rattle.std.proofs.lemmas.List.{get_or_past}
use Rattle.zone_blocks.proofs.OrderLists.{no_blocks}
use Rattle.zone_blocks.proofs.Pairing.{pushed_bits, pushed_none}
use Rattle.zone_blocks.proofs.rings.new_bits.Goals as goal

pub loop-exponent-preserved : goal.loop-exponent-preserved
loop-exponent-preserved c =
    let h = c.loop-exponent.invariant in
    record {
      count = omega arith;
      spare = c.push_reserved.ensures.capacity ∙ h.spare;
      each = pushed_bits (λ k. c.args.frames / 2 ^ k) c.loop-exponent.exponent c.loop-exponent.all.items c.push_reserved.new.self.items
          c.in_ok-bits.bits h.count c.in_ok-bits.ensures
          c.push_reserved.ensures.items h.each;
      none = pushed_none _ c.loop-exponent.exponent c.loop-exponent.all.items c.push_reserved.new.self.items c.in_ok-bits.bits h.count c.in_ok-bits.ensures
          c.push_reserved.ensures.items h.none;
    }

pub returns-clause-bits : goal.returns-clause-bits
returns-clause-bits c = record {
  count = omega arith;
  each = λ k l. c.loop-exponent.invariant.each k (omega arith);
}

pub returns-clause-none : goal.returns-clause-none
returns-clause-none c =
    let all = c.loop-exponent.all.items in
    no_blocks c.args.frames all (λ k i t. elim (cases_lt k 11) [
      | inl l ↦ c.loop-exponent.invariant.none k i (omega arith) t
      | inr past ↦
          let gone = get_or_past all k [] (omega (arith, c.loop-exponent.invariant.count)) in
          false≢true (rw gone at t)
    ])
