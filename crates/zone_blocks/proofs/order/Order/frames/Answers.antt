use Rattle.std.proofs.Common.{arith}
use Rattle.std.proofs.Math.Pow.{pow_mono}
use Rattle.std.proofs.lemmas.Nat.{one_shl}
use Rattle.zone_blocks.proofs.order.Order.frames.Goals as goal

pub returns-clause-at_most : goal.returns-clause-at_most
returns-clause-at_most c =
    omega (arith, one_shl c.self.inside.exponent 32 (omega arith), pow_mono {i = c.self.inside.exponent} {j = 10} c.self.invariant)
