use Rattle.std.proofs.Common.{rules}
use Rattle.mem_machine.proofs.Settled.{back_start, back_more, back_end, fewer}
use Rattle.mem_machine.proofs.machine.Machine.settle_back.Goals as goal

pub loop-frame-init : goal.loop-frame-init
loop-frame-init g c = back_start g.N.BootName.table _ _ c.requires

pub loop-frame-preserved : goal.loop-frame-preserved
loop-frame-preserved g c =
    back_more _ _ _ _ _ _ _ _ c.loop-frame.invariant c.in-Some.ensures.returns c.return_one.ensures.visit c.in-Some.ensures.steps

pub loop-frame-smaller : goal.loop-frame-smaller
loop-frame-smaller g c = fewer _ _ _ c.in-Some.ensures.returns.front

pub returns : goal.returns
returns g c =
    let all = back_end g.N.BootName.table _ _ _ _ _ _ c.loop-frame.invariant c.in_default.ensures.returns in
    record { returns = all.returns; others = all.others; fresh = all.fresh; none_back = all.none_back; visit = search rules; steps = all.steps }
