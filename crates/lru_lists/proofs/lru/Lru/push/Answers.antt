use Rattle.std.proofs.Common.{rules}
use Rattle.lru_lists.proofs.Pairs.{after_push}
use Rattle.lru_lists.proofs.lru.Lru.push.Goals as goal

pub returns : goal.returns
returns c =
    let p = c.push_newest.ensures in
    let all = after_push c.args.links.now c.push_newest.new.self c.args.self.now c.args.list c.push_newest.new.queue c.args.unit c.requires.linked
    (rw c.home.ensures at p.linked) (rw c.home.ensures at p.others) p.used _ c.requires.away (rw c.queue-queue.ensures at p.units) (rw c.home.ensures at p.unit) in
    record {
      linked = rw c.set_queue.ensures all.stands;
      owner = search rules;
      entries = rw c.set_queue.ensures all.entries;
      other = rw c.set_queue.ensures all.other;
      unit = search rules;
      moves = all.moves;
      used = p.used;
      dirt = search rules;
    }
