use Rattle.std.proofs.Common.{ℕ, replicate, true, subst, arith}
use Rattle.zone_blocks.specs.OrderLists.{AreMaximalUpTo}
use Rattle.zone_blocks.proofs.Maximals.{filled_all}
use Rattle.zone_blocks.proofs.areas.FreeAreas.set_all_free.Goals as goal

pub returns-clause-areas : goal.returns-clause-areas
returns-clause-areas c =
    let P : ℕ → Type 0 = λ n. AreMaximalUpTo (replicate n true) c.loop-exponent.exponent 0 c.loop-exponent.self.blocks in
    filled_all (replicate c.args.self.now.frames true) c.loop-exponent.exponent c.loop-exponent.self.blocks (omega arith)
    (subst P c.clear.ensures.frames c.loop-exponent.invariant.filled)
