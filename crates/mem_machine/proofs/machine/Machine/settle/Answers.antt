use Rattle.std.proofs.Common.{rules}
use Rattle.mem_machine.proofs.Settled.{settle_both}
use Rattle.mem_machine.proofs.machine.Machine.settle.Goals as goal

pub returns : goal.returns
returns g c =
    let a = c.settle_fresh.ensures in
    let b = c.settle_back.ensures in
    let all = settle_both g.N.BootName.table _ _ _ _ _ _ a.settles (a.others, a.back, a.none_fresh) a.steps b.returns (b.others, b.fresh, b.none_back) b.steps in
    record { settles = all.settles; others = all.others; none_fresh = all.none_fresh; none_back = search rules; visit = search rules; steps = all.steps }
