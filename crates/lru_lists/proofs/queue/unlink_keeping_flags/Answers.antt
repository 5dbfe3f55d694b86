use Rattle.lru_lists.specs.Queue.{link_at, units_of, unlinked, with_newer, with_older}
use Rattle.lru_lists.proofs.Linking.{within}
use Rattle.lru_lists.proofs.Packing.{numbered}
use Rattle.lru_lists.proofs.Records.{older_frame, newer_frame, length_newer, length_older, set_same, out_linked, out_units, out_others, unlink_use}
use Rattle.lru_lists.proofs.queue.unlink_keeping_flags.Goals as goal

pub set_newer-requires : goal.set_newer-requires
set_newer-requires c =
    let older = older_frame c.args.links.now c.args.home c.args.queue.now c.args.unit c.requires.linked c.requires.unit in
    let newer = newer_frame c.args.links.now c.args.home c.args.queue.now c.args.unit c.requires.linked c.requires.unit in
    rw c.link-link.ensures (record { unit = older; newer = numbered _ _ c.requires.frames newer })

pub set_older-requires : goal.set_older-requires
set_older-requires c =
    let older = older_frame c.args.links.now c.args.home c.args.queue.now c.args.unit c.requires.linked c.requires.unit in
    let newer = newer_frame c.args.links.now c.args.home c.args.queue.now c.args.unit c.requires.linked c.requires.unit in
    rw (
      c.set_newer.ensures,
      c.link-link.ensures,
      length_newer c.args.links.now (link_at c.args.links.now c.args.unit).older (link_at c.args.links.now c.args.unit).newer,
    )
    (record { unit = newer; older = numbered _ _ c.requires.frames older })

pub returns-clause-units : goal.returns-clause-units
returns-clause-units c =
    rw (c.put.ensures, c.set_older.ensures, c.set_newer.ensures, c.without.ensures, c.link-link.ensures)
    (out_units c.args.links.now c.args.home c.args.queue.now c.args.unit c.requires.linked c.requires.unit)

pub returns-clause-linked : goal.returns-clause-linked
returns-clause-linked c =
    rw (
      c.put.ensures,
      c.set_older.ensures,
      c.set_newer.ensures,
      c.without.ensures,
      c.link-link.ensures,
      out_units c.args.links.now c.args.home c.args.queue.now c.args.unit c.requires.linked c.requires.unit,
    )
    (out_linked c.args.links.now c.args.home c.args.queue.now c.args.unit c.requires.linked c.requires.unit)

pub returns-clause-others : goal.returns-clause-others
returns-clause-others c =
    rw (c.put.ensures, c.set_older.ensures, c.set_newer.ensures, c.link-link.ensures)
    (out_others c.args.links.now c.args.home c.args.queue.now c.args.unit c.requires.linked c.requires.unit)

pub returns-clause-used : goal.returns-clause-used
returns-clause-used c =
    rw (c.put.ensures, c.set_older.ensures, c.set_newer.ensures, c.link-link.ensures)
    (unlink_use c.args.links.now c.args.unit (link_at c.args.links.now c.args.unit).older (link_at c.args.links.now c.args.unit).newer
    (link_at c.args.links.now c.args.unit))

pub returns-clause-unit : goal.returns-clause-unit
returns-clause-unit c =
    let older = (link_at c.args.links.now c.args.unit).older in
    let newer = (link_at c.args.links.now c.args.unit).newer in
    let mid = with_newer c.args.links.now older newer in
    let among = c.requires.linked.at_home c.args.unit c.requires.unit in
    let here = within c.args.links.now c.args.home c.args.queue.now (units_of c.args.links.now c.args.queue.now) c.args.unit c.requires.linked among in
    rw (c.put.ensures, c.set_older.ensures, c.set_newer.ensures, c.link-link.ensures)
    (set_same (with_older mid newer older) c.args.unit (unlinked (link_at c.args.links.now c.args.unit))
    (rw (length_older mid newer older, length_newer c.args.links.now older newer) here))
