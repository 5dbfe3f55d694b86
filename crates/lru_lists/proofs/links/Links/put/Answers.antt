use Rattle.lru_lists.proofs.Packing.{written}
use Rattle.lru_lists.proofs.links.Links.put.Goals as goal

pub returns : goal.returns
returns c = written c.self.inside.records.items c.args.self.now c.args.frame c.of.result c.args.link c.self.view_is c.of.ensures
