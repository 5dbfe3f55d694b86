use Rattle.zone_blocks.proofs.Pairing.{slot_within}
use Rattle.zone_blocks.proofs.pairs.read_pair.Goals as goal

pub contains-requires : goal.contains-requires
contains-requires c =
    slot_within _ _ c.requires c.args.block.now c.in_ok-number.ensures.0 c.exponent.result c.in_ok-number.number c.index.result.now
    c.exponent.ensures.exponent c.in_ok-number.ensures.1 c.index.ensures
