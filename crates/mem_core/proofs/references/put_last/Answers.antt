-- The goals of `put_last`.
use Rattle.std.proofs.Common.{arith}
use Rattle.mem_core.proofs.references.put_last.Goals as goal

pub set_references-requires-clause-few : goal.set_references-requires-clause-few
set_references-requires-clause-few c =
    let most = c.requires.bounded.references 0 c.args.frame in
    let count = c.references-count.ensures in
    omega arith
