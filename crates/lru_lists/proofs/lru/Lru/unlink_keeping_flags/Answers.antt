use Rattle.std.proofs.Common.{rules}
use Rattle.lru_lists.proofs.Pairs.{after_unlink}
use Rattle.lru_lists.proofs.lru.Lru.unlink_keeping_flags.Goals as goal

pub returns : goal.returns
returns c =
    let p = c.unlink_keeping_flags.ensures in
    let all = after_unlink c.args.links.now c.unlink_keeping_flags.new.self c.args.self.now c.args.list c.unlink_keeping_flags.new.queue c.args.unit c.requires.linked
    (rw c.home.ensures at p.linked) (rw c.home.ensures at p.others) p.used c.requires.unit (rw c.queue-queue.ensures at p.units) p.unit in
    record {
      linked = rw c.set_queue.ensures all.stands;
      owner = search rules;
      entries = rw c.set_queue.ensures all.entries;
      other = rw c.set_queue.ensures all.other;
      unit = p.unit;
      moves = all.moves;
      used = p.used;
    }
