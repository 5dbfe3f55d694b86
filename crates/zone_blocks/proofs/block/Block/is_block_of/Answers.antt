use Rattle.std.proofs.Common.{rules}
use Rattle.zone_blocks.proofs.block.Block.is_block_of.Goals as goal

pub returns-then-size-frames : goal.returns-then-size-frames
returns-then-size-frames c = search rules
