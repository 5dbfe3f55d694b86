use Rattle.std.proofs.Common.{arith}
use Rattle.std.proofs.lemmas.Grind.{common_steps}
use Rattle.zone_blocks.proofs.areas.FreeAreas.set_from.Goals as goal

pub loop-exponent-init : goal.loop-exponent-init
loop-exponent-init c = grind (arith, common_steps)
