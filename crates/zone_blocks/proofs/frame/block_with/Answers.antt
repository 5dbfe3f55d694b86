use Rattle.std.proofs.lemmas.Bool.{iff_false}
use Rattle.zone_blocks.proofs.Around.{none_of_more}
use Rattle.zone_blocks.proofs.frame.block_with.Goals as goal

pub loop-exponent-preserved : goal.loop-exponent-preserved
loop-exponent-preserved c =
    let o = rw c.unwrap-order.ensures at c.of.ensures in
    none_of_more c.args.areas.now c.args.frame c.loop-exponent.exponent c.unwrap-order.result c.frames.result c.requires o.0 c.frames.ensures.frames
    (iff_false c.contains.ensures c.if-contains.false) c.loop-exponent.invariant
