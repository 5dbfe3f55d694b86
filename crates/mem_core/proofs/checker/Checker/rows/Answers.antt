-- The rows of a checker are bounded by its steps.
use Rattle.std.proofs.Common.{◌*◌, ◌^◌, arith}
use Rattle.mem_core.proofs.Linking.{ready}
use Rattle.mem_core.proofs.checker.Checker.rows.Goals as goal

pub returns-clause-bounded : goal.returns-clause-bounded
returns-clause-bounded c =
    let few = c.self.invariant.few in
    ready c.self.inside.rows (c.self.inside.steps * 2 ^ 32) (omega arith) c.self.invariant.fits c.self.invariant.sound c.self.invariant.bounded
