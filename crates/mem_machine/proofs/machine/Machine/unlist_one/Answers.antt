use Rattle.std.proofs.Common.{rules, sym, ◌∙◌, arith, refl}
use Rattle.mem_machine.specs.Kept.{machine_of}
use Rattle.mem_machine.proofs.Clean.{clean_after_set}
use Rattle.mem_machine.proofs.Collecting.{passed_notes}
use Rattle.mem_machine.proofs.Made.{visits_here}
use Rattle.mem_machine.proofs.Takes.{may_collect_front, may_give, may_pass_front, unlisted_all}
use Rattle.mem_machine.proofs.machine.Machine.unlist_one.Goals as goal

pub pass_front-requires : goal.pass_front-requires
pass_front-requires g c =
    let t = g.N.BootName.table in
    let m = machine_of c.self.inside in
    let visit = visits_here t m _ c.self.view_is c.args.cpu.now c.requires in
    record {
      held = visit.held;
      holder = sym visit.who;
      legal = may_pass_front t m _ c.self.view_is c.args.cpu.now c.requires c.self.invariant.consistent;
    }

pub collect_passed-requires : goal.collect_passed-requires
collect_passed-requires g c =
    let t = g.N.BootName.table in
    let m = machine_of c.self.inside in
    let visit = visits_here t m _ c.self.view_is c.args.cpu.now c.requires in
    record {
      held = c.in-Some.ensures.run.held;
      holder = c.number-cpu_number.ensures.number ∙ sym (c.in-Some.ensures.run.cpu_grew.number ∙ visit.who);
      legal = may_collect_front t m _ c.self.view_is c.args.cpu.now c.requires c.self.invariant.consistent c.in-Some.frame _ c.in-Some.ensures.answer _
          c.number-cpu_number.ensures.number _ c.in-Some.ensures.run;
    }

pub give-requires : goal.give-requires
give-requires g c =
    may_give g.N.BootName.table (machine_of c.self.inside) _ c.self.view_is c.args.cpu.now c.requires c.self.invariant.consistent c.in-Some.frame _ c.in-Some.ensures.answer _ _
    c.single_order.result c.self.invariant.free c.number-at.ensures c.single_order.ensures

pub invariant_of-self-2 : goal.invariant_of-self-2
invariant_of-self-2 g c =
    let t = g.N.BootName.table in
    let noted = passed_notes t (machine_of c.self.inside).run _ _ c.in-Some.frame c.number-cpu_number.ensures.number _
    (record { past = c.collect_passed.new.past; watch = c.collect_passed.new.watch }) c.in-Some.ensures.run c.collect_passed.ensures.collected
    c.collect_passed.ensures.watched in
    let all = unlisted_all t (machine_of c.self.inside) _ c.self.view_is c.args.cpu.now c.requires c.self.invariant.consistent c.in-Some.frame _ c.in-Some.ensures.answer _ _ c.single_order.result _ _ _ _ c.self.invariant.free
    c.self.invariant.sums c.self.invariant.owners c.single_order.ensures c.give.ensures.frames c.give.ensures.areas c.number-at.ensures _ noted in
    record { consistent = all.consistent; free = all.free_is; clean = clean_after_set t _ all.consistent _ _ _ _ refl refl c.self.invariant.clean; sums = all.sums_are; owners = all.owners_are }

pub returns : goal.returns
returns g c =
    let t = g.N.BootName.table in
    let noted = passed_notes t (machine_of c.self.inside).run _ _ c.in-Some.frame c.number-cpu_number.ensures.number _
    (record { past = c.collect_passed.new.past; watch = c.collect_passed.new.watch }) c.in-Some.ensures.run c.collect_passed.ensures.collected
    c.collect_passed.ensures.watched in
    let all = unlisted_all t (machine_of c.self.inside) _ c.self.view_is c.args.cpu.now c.requires c.self.invariant.consistent c.in-Some.frame _ c.in-Some.ensures.answer _ _ c.single_order.result _ _ _ _ c.self.invariant.free
    c.self.invariant.sums c.self.invariant.owners c.single_order.ensures c.give.ensures.frames c.give.ensures.areas c.number-at.ensures _ noted in
    record { takes = record { frame = c.in-Some.frame; takes = all.does; steps = all.makes }; visit = all.visit }

pub invariant_of-self : goal.invariant_of-self
invariant_of-self g c = search rules

pub index_mut-requires : goal.index_mut-requires
index_mut-requires g c = omega (arith, c.in-Some.ensures.frame, c.number-at.ensures, c.self.invariant.consistent.sizes.frame_states)
