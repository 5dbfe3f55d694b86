use Rattle.std.proofs.Common.{sym}
use Rattle.mem_machine.specs.Kept.{machine_of}
use Rattle.mem_machine.proofs.Clean.{clean_after_free}
use Rattle.mem_machine.proofs.Fresh.{collect_legal, drop_all, drop_charged, drop_in_use, dropped_notes, has_room, may_return, none_reported_here, sum_some, unit_inside}
use Rattle.mem_machine.proofs.Made.{visits_here}
use Rattle.mem_machine.proofs.machine.Machine.drop_one.Goals as goal

pub collect_fresh-frame-requires : goal.collect_fresh-frame-requires
collect_fresh-frame-requires g c =
    let t = g.N.BootName.table in
    let m = machine_of c.self.inside in
    let visit = visits_here t m _ c.self.view_is c.args.cpu.now c.requires.visit in
    record {
      held = visit.held;
      holder = sym visit.who;
      absorbed = none_reported_here t m _ c.self.view_is c.args.cpu.now c.requires.visit c.self.invariant.consistent c.args.group c.requires.group;
      legal = collect_legal t m _ c.self.view_is c.args.cpu.now c.requires.visit c.self.invariant.consistent c.args.group c.requires.group;
      fresh = c.requires.fresh;
      booked = sum_some t m _ c.self.view_is c.args.cpu.now c.requires.visit c.self.invariant.consistent c.args.group c.requires.group _ c.self.invariant.sums c.requires.fresh;
    }

pub return_unit-requires : goal.return_unit-requires
return_unit-requires g c =
    let t = g.N.BootName.table in
    let m = machine_of c.self.inside in
    let front = c.collect_fresh-frame.ensures.cpu.front in
    let one = c.single_order-order.ensures in
    let e = c.collect_fresh-frame.ensures in
    record {
      held = c.collect_fresh-frame.ensures.held;
      legal = may_return g.N.BootName.table (machine_of c.self.inside) _ c.self.view_is c.args.cpu.now c.requires.visit c.self.invariant.consistent c.args.group c.requires.group
          c.collect_fresh-frame.result _ e.cpu.front _ e.notes c.requires.killed _ c.number-at.ensures;
      in_use = drop_in_use t m _ c.self.view_is c.args.cpu.now c.requires.visit c.self.invariant.consistent c.args.group c.requires.group
          c.collect_fresh-frame.result _ front _ c.self.invariant.free _ _ c.number-at.ensures one;
      inside = unit_inside t m _ c.self.view_is c.args.cpu.now c.requires.visit c.self.invariant.consistent c.args.group c.requires.group
          c.collect_fresh-frame.result _ front _ _ c.number-at.ensures one;
      charged = drop_charged t m _ c.self.view_is c.args.cpu.now c.requires.visit c.self.invariant.consistent c.args.group c.requires.group
          c.collect_fresh-frame.result _ front _ one;
    }

pub invariant_of-self : goal.invariant_of-self
invariant_of-self g c =
    let t = g.N.BootName.table in
    let fits = has_room g.N.BootName.table (machine_of c.self.inside) _ c.self.view_is c.args.cpu.now c.requires.visit c.self.invariant.consistent c.args.group c.requires.group _
    c.self.invariant.sums c.requires.fresh in
    let e = c.collect_fresh-frame.ensures in
    let u = c.return_unit.ensures in
    let notes = dropped_notes t (machine_of c.self.inside) _ c.self.view_is c.args.cpu.now c.requires.visit c.self.invariant.consistent c.args.group c.requires.group
    c.collect_fresh-frame.result _ e.cpu.front _ e.notes _ _ c.number-at.ensures c.return_unit.ensures.notes in
    let all = drop_all t (machine_of c.self.inside) _ c.self.view_is c.args.cpu.now c.requires.visit c.self.invariant.consistent c.args.group c.requires.group
    c.collect_fresh-frame.result _ e.cpu.front _ _ _ _ _ c.self.invariant.free c.self.invariant.sums c.self.invariant.owners fits c.requires.killed _ e.cpu e.sums _ _
    c.number-at.ensures c.single_order-order.ensures _ u.frame_states _ u.frames u.areas _ u.charges _ c.with_killed_fresh-self-inside.ensures _ notes in
    record { consistent = all.consistent; free = all.free_is; clean = clean_after_free t _ all.consistent _ _ _ _ u.frame_states c.self.invariant.clean; sums = all.sums_are; owners = all.owners_are }

pub returns : goal.returns
returns g c =
    let t = g.N.BootName.table in
    let fits = has_room g.N.BootName.table (machine_of c.self.inside) _ c.self.view_is c.args.cpu.now c.requires.visit c.self.invariant.consistent c.args.group c.requires.group _
    c.self.invariant.sums c.requires.fresh in
    let e = c.collect_fresh-frame.ensures in
    let u = c.return_unit.ensures in
    let notes = dropped_notes t (machine_of c.self.inside) _ c.self.view_is c.args.cpu.now c.requires.visit c.self.invariant.consistent c.args.group c.requires.group
    c.collect_fresh-frame.result _ e.cpu.front _ e.notes _ _ c.number-at.ensures c.return_unit.ensures.notes in
    let all = drop_all t (machine_of c.self.inside) _ c.self.view_is c.args.cpu.now c.requires.visit c.self.invariant.consistent c.args.group c.requires.group
    c.collect_fresh-frame.result _ e.cpu.front _ _ _ _ _ c.self.invariant.free c.self.invariant.sums c.self.invariant.owners fits c.requires.killed _ e.cpu e.sums _ _
    c.number-at.ensures c.single_order-order.ensures _ u.frame_states _ u.frames u.areas _ u.charges _ c.with_killed_fresh-self-inside.ensures _ notes in
    record { drops = all.does; visit = all.visit; steps = all.makes }
