use Rattle.std.proofs.Common.{rules}
use Rattle.zone_blocks.proofs.rings.node_below.Goals as goal

pub returns : goal.returns
returns c = search rules
