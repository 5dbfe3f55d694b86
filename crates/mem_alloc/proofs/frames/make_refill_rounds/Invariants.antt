use Rattle.std.proofs.Common.{◌≡◌}
use Rattle.mem_machine.specs.Showing.{stock_now}
use Rattle.mem_alloc.specs.Frames.{LendsBatch, LendsNoFrame}
use Rattle.mem_alloc.proofs.Rounding.{RoundsSoFar}
use Rattle.mem_alloc.proofs.frames.make_refill_rounds.Given as goal

abbrev pub invariant-loop-round : goal.invariant-loop-round
invariant-loop-round g l =
    RoundsSoFar g.N.BootName.table 1 LendsNoFrame (λ _. LendsBatch l.batch) l.fn.machine l.fn.cpu l.round l.machine l.cpu
    × (stock_now g.N.BootName.table l.machine l.cpu.number ≡ stock_now g.N.BootName.table l.fn.machine l.fn.cpu.number)
