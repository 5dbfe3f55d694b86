use Rattle.std.proofs.Common.{rules}
use Rattle.mem_machine.proofs.blocks.place_unit.Goals as goal

pub loop-frame-preserved : goal.loop-frame-preserved
loop-frame-preserved c = search rules
