use Rattle.std.proofs.Common.{ap, length, Option, ℕ}
use Rattle.lru_lists.specs.declared.record.Link.{Link}
use Rattle.lru_lists.specs.Packed.{link_of}
use Rattle.lru_lists.proofs.Packing.{changed, the_unit}
use Rattle.lru_lists.proofs.links.Links.set_newer.Goals as goal

pub returns-in-Some : goal.returns-in-Some
returns-in-Some c =
    rw c.in-Some.is
    (changed c.self.inside.records.items c.args.self.now c.in-Some.unit c.index_mut.result.now
    (record c.index_mut.result.now { newer = c.number.result }) (λ (k : Link). record k { newer = c.args.newer })
    c.self.view_is (the_unit c.args.unit c.in-Some.unit (length c.args.self.now) c.in-Some.is c.requires.unit) c.index_mut.ensures.value
    (ap (λ (n : Option ℕ). record (link_of c.index_mut.result.now) { newer = n }) c.number.ensures))
