use Rattle.mem_reclaim.proofs.Rounding.{batch_one}
use Rattle.mem_reclaim.proofs.rounds.reclaim_to_limit.Goals as goal

pub returns-clause-rounds : goal.returns-clause-rounds
returns-clause-rounds g c =
    batch_one g.N.BootName.table c.args.group c.args.need c.args.limit c.reclaim_in_batches.result c.args.machine.now
    c.reclaim_in_batches.new.machine c.reclaim_in_batches.ensures.rounds
