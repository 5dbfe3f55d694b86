use Rattle.lru_lists.proofs.Packing.{none_stand}
use Rattle.lru_lists.proofs.links.Links.new.Goals as goal

pub returns-clause-nowhere : goal.returns-clause-nowhere
returns-clause-nowhere c f = none_stand c.args.frames c.in_ok-records.records.items f (c.in_ok-records.ensures.items_if_clones_equal (λ y h. h))
