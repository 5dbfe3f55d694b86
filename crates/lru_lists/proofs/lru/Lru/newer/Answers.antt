use Rattle.std.proofs.Common.{◌∙◌}
use Rattle.lru_lists.specs.{link_at, units_of, home_in, queue_of, list_of}
use Rattle.lru_lists.proofs.Records.{newer_frame}
use Rattle.lru_lists.proofs.Pairs.{home_of_list, after_read, some_list}
use Rattle.lru_lists.proofs.lru.Lru.newer.Goals as goal

pub entry-requires : goal.entry-requires
entry-requires c =
    let p = some_list (list_of c.args.links.now c.args.self.now.owner c.args.unit) c.requires.on in
    rw c.link.ensures
    (newer_frame c.args.links.now (home_in c.args.self.now p.0) (queue_of c.args.self.now p.0) c.args.unit (c.requires.linked p.0)
    (home_of_list (link_at c.args.links.now c.args.unit).home c.args.self.now p.0 p.1))

pub returns : goal.returns
returns c list h =
    let there = home_of_list (link_at c.args.links.now c.args.unit).home c.args.self.now list h in
    let l = c.requires.linked list in
    let e = l.newer c.args.unit (l.at_home c.args.unit there) in
    c.entry.ensures ∙ rw (c.link.ensures, e) (after_read c.args.links.now c.args.unit (units_of c.args.links.now (queue_of c.args.self.now list)))
