use Rattle.std.proofs.Common.{arith}
use Rattle.std.proofs.lemmas.Grind.{common_steps}
use Rattle.zone_blocks.proofs.rings.node_before.Goals as goal

pub returns-then-block-next : goal.returns-then-block-next
returns-then-block-next c = grind (arith, common_steps)
