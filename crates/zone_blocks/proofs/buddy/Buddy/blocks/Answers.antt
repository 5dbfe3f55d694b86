use Rattle.std.proofs.Common.{rules}
use Rattle.zone_blocks.proofs.buddy.Buddy.blocks.Goals as goal

pub returns-clause-blocks : goal.returns-clause-blocks
returns-clause-blocks c = search rules
