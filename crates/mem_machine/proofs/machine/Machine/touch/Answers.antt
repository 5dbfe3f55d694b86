use Rattle.mem_machine.proofs.Clean.{clean_owners}
use Rattle.mem_machine.proofs.Dirties.{has_home}
use Rattle.mem_machine.proofs.Touching.{touch_all}
use Rattle.mem_machine.proofs.machine.Machine.touch.Goals as goal

pub unreachable-requires : goal.unreachable-requires
unreachable-requires g c = has_home _ _ c.self.view_is c.args.head _ c.number-at.ensures c.requires.kept c.in_default.ensures

pub invariant_of-self : goal.invariant_of-self
invariant_of-self g c = record {
  consistent = (touch_all g.N.BootName.table _ _ c.self.view_is c.self.invariant.consistent c.args.head _ c.requires.frame c.number-at.ensures c.in-Some.home
      c.in-Some.ensures _ c.index.ensures _ _ c.touch-touched.result c.touch-touched.ensures.linked c.touch-touched.ensures.owner
      c.touch-touched.ensures.touches
      c.touch-touched.ensures.others c.others_stay_linked.ensures c.one_of_all_changes.ensures).consistent;
  free = c.self.invariant.free;
  clean = clean_owners _ _ _ _ c.touch-touched.ensures.owners c.self.invariant.clean;
  sums = c.self.invariant.sums;
  owners = c.self.invariant.owners;
}

pub returns : goal.returns
returns g c =
    let all = touch_all g.N.BootName.table _ _ c.self.view_is c.self.invariant.consistent c.args.head _ c.requires.frame c.number-at.ensures
    c.in-Some.home
    c.in-Some.ensures _ c.index.ensures _ _ c.touch-touched.result c.touch-touched.ensures.linked c.touch-touched.ensures.owner c.touch-touched.ensures.touches
    c.touch-touched.ensures.others c.others_stay_linked.ensures c.one_of_all_changes.ensures in
    record { touches = all.touches; steps = all.steps }
