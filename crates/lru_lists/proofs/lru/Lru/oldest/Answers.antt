use Rattle.std.proofs.Common.{arith}
use Rattle.std.proofs.lemmas.Grind.{common_steps}
use Rattle.lru_lists.proofs.lru.Lru.oldest.Goals as goal

pub entry-requires : goal.entry-requires
entry-requires c = grind (arith, common_steps)

pub returns : goal.returns
returns c = grind (arith, common_steps)
