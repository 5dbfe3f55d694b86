use Rattle.zone_blocks.proofs.Walking.{from_start}
use Rattle.zone_blocks.proofs.walk.Walk.over.Goals as goal

pub returns-clause-walk : goal.returns-clause-walk
returns-clause-walk c = from_start c.args.areas.now.blocks c.first_from.result c.first_from.ensures.apart.ordered c.first_from.ensures.smallest
