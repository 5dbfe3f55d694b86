use Rattle.std.proofs.Common.{ap, subst, sym, arith}
use Rattle.lru_lists.specs.{owner_of}
use Rattle.mem_machine.specs.{AreCleanCounts, machine_of}
use Rattle.mem_machine.proofs.Clean.{clean_kept_here, clean_room}
use Rattle.mem_machine.proofs.Fresh.{away_here, collect_legal, has_room, keep_all, kept_notes, may_publish, none_reported_here, sum_some, within_here}
use Rattle.mem_machine.proofs.Made.{visits_here}
use Rattle.mem_machine.proofs.machine.Machine.keep_one.Goals as goal

pub collect_fresh-head-requires : goal.collect_fresh-head-requires
collect_fresh-head-requires g c =
    let t = g.N.BootName.table in
    let m = machine_of c.self.inside in
    let visit = visits_here t m _ c.self.view_is c.args.cpu.now c.requires.visit in
    record {
      held = visit.held;
      holder = sym visit.who;
      absorbed = none_reported_here t m _ c.self.view_is c.args.cpu.now c.requires.visit c.self.invariant.consistent c.args.group c.requires.group;
      legal = collect_legal t m _ c.self.view_is c.args.cpu.now c.requires.visit c.self.invariant.consistent c.args.group c.requires.group;
      fresh = c.requires.fresh;
      booked = sum_some t m _ c.self.view_is c.args.cpu.now c.requires.visit c.self.invariant.consistent c.args.group c.requires.group _ c.self.invariant.sums c.requires.fresh;
    }

pub index_mut-requires : goal.index_mut-requires
index_mut-requires g c =
    let inside = within_here g.N.BootName.table (machine_of c.self.inside) _ c.self.view_is c.args.cpu.now c.requires.visit c.self.invariant.consistent c.args.group
    c.requires.group c.collect_fresh-head.result _ c.collect_fresh-head.ensures.cpu.front _ c.number-frame.ensures in
    omega (arith, inside)

pub join_list-requires-clause-frame : goal.join_list-requires-clause-frame
join_list-requires-clause-frame g c =
    let inside = within_here g.N.BootName.table (machine_of c.self.inside) _ c.self.view_is c.args.cpu.now c.requires.visit c.self.invariant.consistent c.args.group
    c.requires.group c.collect_fresh-head.result _ c.collect_fresh-head.ensures.cpu.front _ c.number-frame.ensures in
    let sizes = c.self.invariant.consistent.sizes in
    omega (arith, inside, sizes.frame_states, sizes.links)

pub join_list-requires-clause-few : goal.join_list-requires-clause-few
join_list-requires-clause-few g c =
    clean_room g.N.BootName.table (machine_of c.self.inside) c.self.invariant.consistent _ c.self.invariant.clean c.args.group

pub join_list-requires-clause-list : goal.join_list-requires-clause-list
join_list-requires-clause-list g c =
    let fits = has_room g.N.BootName.table (machine_of c.self.inside) _ c.self.view_is c.args.cpu.now c.requires.visit c.self.invariant.consistent c.args.group c.requires.group _
    c.self.invariant.sums c.requires.fresh in
    let sizes = c.self.invariant.consistent.sizes in
    omega (arith, fits, sizes.killed, sizes.lists)

pub join_list-requires-clause-count : goal.join_list-requires-clause-count
join_list-requires-clause-count g c =
    let fits = has_room g.N.BootName.table (machine_of c.self.inside) _ c.self.view_is c.args.cpu.now c.requires.visit c.self.invariant.consistent c.args.group c.requires.group _
    c.self.invariant.sums c.requires.fresh in
    let sized = c.self.invariant.clean.size in
    omega (arith, fits, sized)

pub join_list-requires-clause-away : goal.join_list-requires-clause-away
join_list-requires-clause-away g c =
    away_here g.N.BootName.table (machine_of c.self.inside) _ c.self.view_is c.args.cpu.now c.requires.visit c.self.invariant.consistent c.args.group c.requires.group
    c.collect_fresh-head.result _ c.collect_fresh-head.ensures.cpu.front _ c.number-frame.ensures

pub publish-requires-clause-legal : goal.publish-requires-clause-legal
publish-requires-clause-legal g c =
    let e = c.collect_fresh-head.ensures in
    may_publish g.N.BootName.table (machine_of c.self.inside) _ c.self.view_is c.args.cpu.now c.requires.visit c.self.invariant.consistent c.args.group c.requires.group
    c.collect_fresh-head.result _ e.cpu.front _ e.notes

pub invariant_of-self : goal.invariant_of-self
invariant_of-self g c =
    let t = g.N.BootName.table in
    let fits = has_room g.N.BootName.table (machine_of c.self.inside) _ c.self.view_is c.args.cpu.now c.requires.visit c.self.invariant.consistent c.args.group c.requires.group _
    c.self.invariant.sums c.requires.fresh in
    let e = c.collect_fresh-head.ensures in
    let a = c.join_list.ensures in
    let notes = kept_notes t (machine_of c.self.inside) _ c.self.view_is c.args.cpu.now c.requires.visit c.self.invariant.consistent c.args.group c.requires.group
    c.collect_fresh-head.result _ e.cpu.front _ e.notes _ c.publish.ensures in
    let all = keep_all t (machine_of c.self.inside) _ c.self.view_is c.args.cpu.now c.requires.visit c.self.invariant.consistent c.args.group c.requires.group
    c.collect_fresh-head.result _ e.cpu.front _ _ _ _ c.self.invariant.free c.self.invariant.sums c.self.invariant.owners fits _ e.cpu e.sums _ _ c.number-frame.ensures
    c.single_order-order.ensures _ _ (record { joins = a.joins; stand = a.lists; frames = a.frames; groups = a.groups }) _ notes in
    let away = away_here t (machine_of c.self.inside) _ c.self.view_is c.args.cpu.now c.requires.visit c.self.invariant.consistent c.args.group c.requires.group
    c.collect_fresh-head.result _ e.cpu.front _ c.number-frame.ensures in
    let inside = within_here t (machine_of c.self.inside) _ c.self.view_is c.args.cpu.now c.requires.visit c.self.invariant.consistent c.args.group
    c.requires.group c.collect_fresh-head.result _ e.cpu.front _ c.number-frame.ensures in
    let sized = c.self.invariant.consistent.sizes.frame_states in
    let clean = subst (AreCleanCounts _ _ _) (sym a.clean) (clean_kept_here _ _ _ _ (record { group = c.args.group; order = c.single_order-order.result }) _ (omega (arith, inside, sized)) a.used a.dirt away (ap owner_of a.joins.home) fits c.self.invariant.clean) in
    record { consistent = all.consistent; free = all.free_is; clean = clean; sums = all.sums_are; owners = all.owners_are }

pub returns : goal.returns
returns g c =
    let t = g.N.BootName.table in
    let fits = has_room g.N.BootName.table (machine_of c.self.inside) _ c.self.view_is c.args.cpu.now c.requires.visit c.self.invariant.consistent c.args.group c.requires.group _
    c.self.invariant.sums c.requires.fresh in
    let e = c.collect_fresh-head.ensures in
    let a = c.join_list.ensures in
    let notes = kept_notes t (machine_of c.self.inside) _ c.self.view_is c.args.cpu.now c.requires.visit c.self.invariant.consistent c.args.group c.requires.group
    c.collect_fresh-head.result _ e.cpu.front _ e.notes _ c.publish.ensures in
    let all = keep_all t (machine_of c.self.inside) _ c.self.view_is c.args.cpu.now c.requires.visit c.self.invariant.consistent c.args.group c.requires.group
    c.collect_fresh-head.result _ e.cpu.front _ _ _ _ c.self.invariant.free c.self.invariant.sums c.self.invariant.owners fits _ e.cpu e.sums _ _ c.number-frame.ensures
    c.single_order-order.ensures _ _ (record { joins = a.joins; stand = a.lists; frames = a.frames; groups = a.groups }) _ notes in
    record { keeps = all.does; visit = all.visit; steps = all.makes }
