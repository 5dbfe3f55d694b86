use Rattle.std.proofs.Common.{refl, rules}
use Rattle.zone_threads.specs.Calling.{AllocatesPinned, MayPinBlock}
use Rattle.zone_threads.proofs.Pinning.{pinned_answer}
use Rattle.zone_threads.proofs.Visited.{of_cpu, under_lock}
use Rattle.zone_threads.proofs.home.Home.alloc_pinned.Goals as goal

pub returns : goal.returns
returns g c =
    pinned_answer g.N.BootName.table c.args.group c.args.order c.alloc_pinned-answer.result c.args.self.now _
    (of_cpu (MayPinBlock c.args.order) _ c.in-Some.cpu (search rules) (search rules))
    (under_lock (AllocatesPinned g.N.BootName.table c.args.group c.args.order c.alloc_pinned-answer.result) c.args.self.now _ c.in-Some.cpu c.alloc_pinned-answer.new.cpu c.deref-zone.result.now.sizes
    c.put_back.result _ c.in-Some-take.behind c.deref_mut.result.now c.alloc_pinned-answer.new.self (search rules) refl (search rules) refl (search rules)
    c.in-Some-take.ensures.found c.put_back.ensures.found c.put_back.ensures.left c.deref_mut.ensures.value c.alloc_pinned-answer.ensures)
