use Rattle.lru_lists.proofs.Packing.{as_many}
use Rattle.lru_lists.proofs.links.Links.push_newest.Goals as goal

pub push_newest-requires-clause-frames : goal.push_newest-requires-clause-frames
push_newest-requires-clause-frames c = as_many c.self.inside.records.items c.args.self.now 4294967296 c.self.view_is c.self.invariant
