use Rattle.std.proofs.Common.{rules}
use Rattle.lru_lists.proofs.packed.Packed.of.Goals as goal

pub returns : goal.returns
returns c = search rules
