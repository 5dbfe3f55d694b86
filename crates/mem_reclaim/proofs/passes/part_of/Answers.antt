use Rattle.std.proofs.Common.{◌<◌, IfSome, subst}
use Rattle.mem_reclaim.proofs.passes.part_of.Goals as goal

pub share-requires : goal.share-requires
share-requires c = subst (λ o. IfSome o (λ s. c.args.group < s.now.room)) c.in-Some.is c.requires
