use Rattle.zone_blocks.proofs.Unique.{in_one_block}
use Rattle.zone_blocks.proofs.laws.every_free_frame_is_in_one_block.Goals as goal

pub returns : goal.returns
returns c = in_one_block
