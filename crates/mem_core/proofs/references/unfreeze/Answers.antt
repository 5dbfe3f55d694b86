-- The goals of `unfreeze`.
use Rattle.std.proofs.Common.{arith}
use Rattle.mem_core.specs.Rows.{state_in}
use Rattle.mem_core.proofs.Serving.{unfreeze_few}
use Rattle.mem_core.proofs.references.unfreeze.Goals as goal

pub set_references-requires-clause-few : goal.set_references-requires-clause-few
set_references-requires-clause-few c =
    let few = unfreeze_few (state_in c.args.rows.now) c.args.seat c.args.frame c.args.count c.requires.bounded c.requires.legal in
    let count = c.references.ensures in
    omega arith
