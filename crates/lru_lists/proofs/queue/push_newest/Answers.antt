use Rattle.std.proofs.Common.{arith, Some}
use Rattle.lru_lists.specs.{link_at, units_of}
use Rattle.lru_lists.proofs.Packing.{numbered}
use Rattle.lru_lists.proofs.Records.{length_newer, newest_frame, room, pushed_linked, pushed_units, push_others, push_use}
use Rattle.lru_lists.proofs.queue.push_newest.Goals as goal

pub set_newer-requires : goal.set_newer-requires
set_newer-requires c = record {
  unit = newest_frame c.args.links.now c.args.home c.args.queue.now c.requires.linked;
  newer = omega (arith, c.requires.unit, c.requires.frames);
}

pub put-requires : goal.put-requires
put-requires c = record {
  frame = rw (c.set_newer.ensures, length_newer c.args.links.now c.args.queue.now.newest (Some c.args.unit)) c.requires.unit;
  older = numbered _ _ c.requires.frames (newest_frame c.args.links.now c.args.home c.args.queue.now c.requires.linked);
  newer = tt;
}

pub pushed-requires : goal.pushed-requires
pushed-requires c = omega (arith, room c.args.links.now c.args.home c.args.queue.now c.args.unit c.requires.linked c.requires.unit c.requires.away)

pub returns-clause-units : goal.returns-clause-units
returns-clause-units c =
    rw (c.put.ensures, c.set_newer.ensures, c.pushed.ensures, c.link-is_dirty.ensures)
    (pushed_units c.args.links.now c.args.home c.args.queue.now c.args.unit (link_at c.args.links.now c.args.unit).is_dirty
    c.requires.linked c.requires.unit c.requires.away)

pub returns-clause-linked : goal.returns-clause-linked
returns-clause-linked c =
    let l = c.requires.linked in
    rw (
      c.put.ensures,
      c.set_newer.ensures,
      c.pushed.ensures,
      c.link-is_dirty.ensures,
      pushed_units c.args.links.now c.args.home c.args.queue.now c.args.unit (link_at c.args.links.now c.args.unit).is_dirty l c.requires.unit c.requires.away,
    )
    (pushed_linked c.args.links.now c.args.home c.args.queue.now c.args.unit (link_at c.args.links.now c.args.unit).is_dirty l c.requires.unit c.requires.away)

pub returns-clause-others : goal.returns-clause-others
returns-clause-others c =
    rw (c.put.ensures, c.set_newer.ensures, c.link-is_dirty.ensures)
    (push_others c.args.links.now c.args.home c.args.queue.now (units_of c.args.links.now c.args.queue.now) c.args.unit
    (link_at c.args.links.now c.args.unit).is_dirty c.requires.linked)

pub returns-clause-used : goal.returns-clause-used
returns-clause-used c =
    rw (c.put.ensures, c.set_newer.ensures, c.link-is_dirty.ensures)
    (push_use c.args.links.now c.args.home c.args.queue.now c.args.unit (link_at c.args.links.now c.args.unit).is_dirty)
