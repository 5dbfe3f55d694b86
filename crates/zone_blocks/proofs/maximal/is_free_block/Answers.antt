use Rattle.zone_blocks.proofs.Frames.{free_block_from_range, range_from_free_block}
use Rattle.zone_blocks.proofs.maximal.is_free_block.Goals as goal

pub returns : goal.returns
returns c =
    let block = c.is_block_of.ensures.0 c.if-not-is_block_of.false in (
      λ t. free_block_from_range c.args.free.now c.args.block c.frames.result c.frames.ensures.frames block (c.are_all_free.ensures.0 t),
      λ h. c.are_all_free.ensures.1 (range_from_free_block c.args.free.now c.args.block c.frames.result c.frames.ensures.frames h),
    )
