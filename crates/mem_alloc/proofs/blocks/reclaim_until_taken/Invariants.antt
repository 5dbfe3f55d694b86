use Rattle.std.proofs.Common.{◌^◌}
use Rattle.mem_alloc.specs.Blocks.{FindsNoBlock, TakesFreeBlock}
use Rattle.mem_alloc.proofs.Rounding.{RoundsSoFar}
use Rattle.mem_alloc.proofs.blocks.reclaim_until_taken.Given as goal

abbrev pub invariant-loop-round : goal.invariant-loop-round
invariant-loop-round g l =
    RoundsSoFar g.N.BootName.table (2 ^ l.order) (FindsNoBlock l.group l.order) (TakesFreeBlock l.group l.order) l.fn.machine l.fn.cpu
    l.round l.machine l.cpu
