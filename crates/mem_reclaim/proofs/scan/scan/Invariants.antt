use Rattle.mem_reclaim.proofs.Scanning.{ScanSoFar}
use Rattle.mem_reclaim.proofs.scan.scan.Given as goal

abbrev pub invariant-loop-met : goal.invariant-loop-met
invariant-loop-met g l = ScanSoFar g.N.BootName.table l.spares_marked l.group l.list l.want l.fn.machine l._met l.freed l.next l.machine
