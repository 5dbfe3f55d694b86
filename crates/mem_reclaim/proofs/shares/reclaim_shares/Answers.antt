use Rattle.mem_reclaim.proofs.Giving.{as_shares}
use Rattle.mem_reclaim.proofs.shares.reclaim_shares.Goals as goal

pub returns-clause-passes : goal.returns-clause-passes
returns-clause-passes g c =
    as_shares g.N.BootName.table _ _ c.args.target c.args.want c.reclaim_pass.result c.shares_of-shares.result c.shares_of-shares.ensures.room c.shares_of-shares.ensures.available c.shares_of-shares.ensures.want
    c.reclaim_pass.ensures.passes
