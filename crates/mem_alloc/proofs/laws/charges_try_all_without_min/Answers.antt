use Rattle.mem_alloc.proofs.ComingLast.{charges_try_all_without_min}
use Rattle.mem_alloc.proofs.laws.charges_try_all_without_min.Goals as goal

pub returns : goal.returns
returns c = charges_try_all_without_min
