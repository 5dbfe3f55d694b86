use Rattle.std.proofs.Common.{rules}
use Rattle.bit_levels.proofs.levels.BitLevels.contains.Goals as goal

pub returns : goal.returns
returns c = search rules
