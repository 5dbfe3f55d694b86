use Rattle.std.specs.Prelude.{option_map}
use Rattle.mem_reclaim.specs.Shares.{shares_by}
use Rattle.mem_reclaim.proofs.Passing.{PassSoFar}
use Rattle.mem_reclaim.proofs.passes.reclaim_pass.Given as goal

abbrev pub invariant-loop-number : goal.invariant-loop-number
invariant-loop-number g l = PassSoFar g.N.BootName.table (option_map (λ s. shares_by s.now) l.fn.shares) l.fn.pass l.fn.target l.fn.want l.fn.machine l.number l.freed l.machine
