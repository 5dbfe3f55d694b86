use Rattle.mem_reclaim.proofs.Rounding.{batch_of_one}
use Rattle.mem_reclaim.proofs.laws.batches_of_one_want_what_is_missing.Goals as goal

pub returns : goal.returns
returns c = batch_of_one
