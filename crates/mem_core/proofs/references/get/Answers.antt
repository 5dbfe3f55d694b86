-- The goals of `get`.
use Rattle.std.proofs.Common.{arith}
use Rattle.mem_core.specs.Rows.{state_in}
use Rattle.mem_core.proofs.Serving.{get_few}
use Rattle.mem_core.proofs.references.get.Goals as goal

pub set_references-requires-clause-few : goal.set_references-requires-clause-few
set_references-requires-clause-few c =
    let few = get_few (state_in c.args.rows.now) c.args.seat c.args.frame c.requires.legal in
    let live = c.live_references-live.ensures in
    let count = c.references-count.ensures in
    omega arith
