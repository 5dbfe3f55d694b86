use Rattle.std.proofs.Common.{arith}
use Rattle.group_tree.proofs.TextLemmas.{IsPadded-written}
use Rattle.group_tree.proofs.path.PathText.of.Goals as goal

pub invariant_of-result : goal.invariant_of-result
invariant_of-result c = IsPadded-written _ c.args.text.now (omega arith) c.write_front.ensures
