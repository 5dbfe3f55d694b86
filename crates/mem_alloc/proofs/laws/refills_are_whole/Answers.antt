use Rattle.mem_alloc.proofs.ComingLast.{refills_are_whole}
use Rattle.mem_alloc.proofs.laws.refills_are_whole.Goals as goal

pub returns : goal.returns
returns c = refills_are_whole
