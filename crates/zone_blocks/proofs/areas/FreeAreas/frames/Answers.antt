use Rattle.std.proofs.Common.{rules}
use Rattle.zone_blocks.proofs.areas.FreeAreas.frames.Goals as goal

pub returns : goal.returns
returns c = search rules
