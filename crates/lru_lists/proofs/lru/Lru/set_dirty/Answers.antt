use Rattle.std.proofs.Common.{refl}
use Rattle.lru_lists.specs.{link_at, dirtied}
use Rattle.lru_lists.proofs.Pairs.{remarked_stands, remarked_entries}
use Rattle.lru_lists.proofs.lru.Lru.set_dirty.Goals as goal

pub returns-clause-linked : goal.returns-clause-linked
returns-clause-linked c =
    rw c.set_dirty.ensures (remarked_stands c.args.links.now c.args.self.now c.args.unit
    (record (link_at c.args.links.now c.args.unit) { is_dirty = c.args.is_dirty }) c.requires.linked (refl, refl, refl))

pub returns-clause-entries : goal.returns-clause-entries
returns-clause-entries c =
    rw c.set_dirty.ensures
    (remarked_entries c.args.links.now c.args.self.now c.args.unit (record (link_at c.args.links.now c.args.unit) { is_dirty = c.args.is_dirty })
    (dirtied c.args.is_dirty) c.requires.linked
    (refl, refl, refl) c.requires.frame refl)
