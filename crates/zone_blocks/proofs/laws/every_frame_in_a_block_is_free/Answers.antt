use Rattle.zone_blocks.proofs.Unique.{in_a_block_is_free}
use Rattle.zone_blocks.proofs.laws.every_frame_in_a_block_is_free.Goals as goal

pub returns : goal.returns
returns c = in_a_block_is_free
