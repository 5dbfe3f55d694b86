-- At most 255 on each frame.
use Rattle.std.proofs.Common.{get_or, length, arith}
use Rattle.mem_core.proofs.Pinning.{sum_times}
use Rattle.mem_core.proofs.reference_counts.ReferenceCounts.sum.Goals as goal

pub returns-clause-few : goal.returns-clause-few
returns-clause-few c =
    let xs = c.self.inside.counts.items in
    let most = sum_times (length xs) 255 (λ f. get_or xs f 0) c.self.invariant.each in
    omega (arith, most, c.self.invariant.few, c.self.inside.counts.ok.0, c.self.invariant.sum)
