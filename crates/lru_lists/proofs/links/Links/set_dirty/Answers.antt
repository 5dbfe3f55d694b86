use Rattle.std.proofs.Common.{refl}
use Rattle.lru_lists.specs.declared.record.Link.{Link}
use Rattle.lru_lists.proofs.Packing.{changed}
use Rattle.lru_lists.proofs.links.Links.set_dirty.Goals as goal

pub returns : goal.returns
returns c =
    let before = c.index_mut-record.result.now in
    changed c.self.inside.records.items c.args.self.now c.args.unit before
    (record before { flags = c.of-record.result }) (λ (k : Link). record k { is_dirty = c.args.is_dirty })
    c.self.view_is c.requires c.index_mut-record.ensures.value (rw (c.of-record.ensures.marked, c.of-record.ensures.dirty, c.is_marked.ensures) refl)
