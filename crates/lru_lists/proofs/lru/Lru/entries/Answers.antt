use Rattle.lru_lists.specs.Lists.{home_in, queue_of}
use Rattle.lru_lists.proofs.Walking.{all_frames}
use Rattle.lru_lists.proofs.lru.Lru.entries.Goals as goal

pub over-requires : goal.over-requires
over-requires c =
    rw c.queue.ensures (all_frames c.args.links.now (home_in c.args.self.now c.args.list) (queue_of c.args.self.now c.args.list) (c.requires c.args.list))
