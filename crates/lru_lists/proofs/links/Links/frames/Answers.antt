use Rattle.std.proofs.Common.{arith}
use Rattle.std.proofs.lemmas.Grind.{common_steps}
use Rattle.lru_lists.proofs.links.Links.frames.Goals as goal

pub returns : goal.returns
returns c = grind (arith, common_steps)
