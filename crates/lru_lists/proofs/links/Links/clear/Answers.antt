use Rattle.std.proofs.Common.{refl}
use Rattle.lru_lists.specs.Queue.{nowhere}
use Rattle.lru_lists.proofs.Packing.{packed_nowhere, written}
use Rattle.lru_lists.proofs.links.Links.clear.Goals as goal

pub returns : goal.returns
returns c = written c.self.inside.records.items c.args.self.now c.args.frame packed_nowhere nowhere c.self.view_is refl
