use Rattle.lru_lists.proofs.Packing.{as_many}
use Rattle.lru_lists.proofs.links.Links.unlink_keeping_flags.Goals as goal

pub unlink_keeping_flags-requires-clause-frames : goal.unlink_keeping_flags-requires-clause-frames
unlink_keeping_flags-requires-clause-frames c = as_many c.self.inside.records.items c.args.self.now 4294967296 c.self.view_is c.self.invariant
