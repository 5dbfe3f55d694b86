use Rattle.zone_blocks.proofs.Unique.{unique_blocks}
use Rattle.zone_blocks.proofs.laws.maximal_blocks_are_unique.Goals as goal

pub returns : goal.returns
returns c = unique_blocks
