use Rattle.std.proofs.Common.{rules}
use Rattle.mem_machine.proofs.Settled.{fresh_start, fresh_more, fresh_end, settled_over, fewer}
use Rattle.mem_machine.proofs.machine.Machine.settle_fresh.Goals as goal

pub loop-frame-init : goal.loop-frame-init
loop-frame-init g c = fresh_start g.N.BootName.table _ _ c.requires

pub loop-frame-preserved : goal.loop-frame-preserved
loop-frame-preserved g c =
    fresh_more _ _ _ _ _ _ _ _ c.loop-frame.invariant c.in-Some.ensures.settles c.settle_one.ensures.visit c.in-Some.ensures.steps

pub loop-frame-smaller : goal.loop-frame-smaller
loop-frame-smaller g c = fewer _ _ _ (settled_over g.N.BootName.table _ _ _ _ _ c.in-Some.ensures.settles).front

pub returns : goal.returns
returns g c =
    let all = fresh_end g.N.BootName.table _ _ _ _ _ _ c.loop-frame.invariant c.in_default.ensures.settles in
    record { settles = all.settles; others = all.others; back = all.back; none_fresh = all.none_fresh; visit = search rules; steps = all.steps }
