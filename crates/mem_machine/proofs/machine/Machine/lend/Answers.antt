use Rattle.std.proofs.Common.{◌<◌, sym, arith, rules, refl}
use Rattle.mem_machine.specs.Kept.{machine_of}
use Rattle.mem_machine.specs.Steps.{lend_steps}
use Rattle.mem_machine.proofs.Clean.{clean_after_set}
use Rattle.mem_machine.proofs.Collecting.{turn_notes}
use Rattle.mem_machine.proofs.Lends.{given_free, lent_all, may_lend, number_low}
use Rattle.mem_machine.proofs.Made.{visits_here}
use Rattle.mem_machine.proofs.machine.Machine.lend.Goals as goal

pub borrow-requires : goal.borrow-requires
borrow-requires g c =
    let t = g.N.BootName.table in
    let m = machine_of c.self.inside in
    let visit = visits_here t m _ c.self.view_is c.args.cpu.now c.requires.visit in
    record {
      held = visit.held;
      holder = sym visit.who;
      legal = may_lend t m _ c.self.view_is c.args.cpu.now c.requires.visit c.self.invariant.consistent c.args.frame c.requires.frame c.requires.free;
      room = search rules;
    }

pub overflow_cast-cpu_number : goal.overflow_cast-cpu_number
overflow_cast-cpu_number g c =
    let low = number_low g.N.BootName.table (machine_of c.self.inside) _ c.self.view_is c.args.cpu.now c.requires.visit in
    let few = c.prove_sizes.ensures.few in
    let named = c.number-cpu_number.ensures.number in
    let small : c.number-cpu_number.result < 256 = omega (arith, low, few, named) in
    search rules

pub take_frame-requires : goal.take_frame-requires
take_frame-requires g c =
    given_free g.N.BootName.table (machine_of c.self.inside) _ c.self.view_is c.args.cpu.now c.requires.visit c.self.invariant.consistent c.args.frame c.requires.frame c.requires.free
    _ _ c.self.invariant.free c.number-given.ensures

pub invariant_of-self : goal.invariant_of-self
invariant_of-self g c =
    let t = g.N.BootName.table in
    let m = machine_of c.self.inside in
    let visit = visits_here t m _ c.self.view_is c.args.cpu.now c.requires.visit in
    let noted = turn_notes lend_steps t (machine_of c.self.inside).run c.args.cpu.now.number c.args.frame _ _ c.number-given.ensures c.number-cpu_number.ensures.number _ _ visit.held
    c.borrow.ensures.run c.watch_lent.ensures in
    let all = lent_all t (machine_of c.self.inside) _ c.self.view_is c.args.cpu.now c.requires.visit c.self.invariant.consistent c.args.frame c.requires.frame c.requires.free
    _ _ _ _ _ _ _ _ c.self.invariant.free c.self.invariant.sums c.self.invariant.owners c.take_frame.ensures.frames c.take_frame.ensures.areas c.number-given.ensures
    c.number-cpu_number.ensures.number c.borrow.ensures.cpu _ noted in
    record { consistent = all.consistent; free = all.free_is; clean = clean_after_set t _ all.consistent _ _ _ _ refl refl c.self.invariant.clean; sums = all.sums_are; owners = all.owners_are }

pub returns : goal.returns
returns g c =
    let t = g.N.BootName.table in
    let m = machine_of c.self.inside in
    let visit = visits_here t m _ c.self.view_is c.args.cpu.now c.requires.visit in
    let noted = turn_notes lend_steps t (machine_of c.self.inside).run c.args.cpu.now.number c.args.frame _ _ c.number-given.ensures c.number-cpu_number.ensures.number _ _ visit.held
    c.borrow.ensures.run c.watch_lent.ensures in
    let all = lent_all t (machine_of c.self.inside) _ c.self.view_is c.args.cpu.now c.requires.visit c.self.invariant.consistent c.args.frame c.requires.frame c.requires.free
    _ _ _ _ _ _ _ _ c.self.invariant.free c.self.invariant.sums c.self.invariant.owners c.take_frame.ensures.frames c.take_frame.ensures.areas c.number-given.ensures
    c.number-cpu_number.ensures.number c.borrow.ensures.cpu _ noted in
    record { lends = all.does; visit = all.visit; steps = all.makes }

pub index_mut-requires : goal.index_mut-requires
index_mut-requires g c = omega (arith, c.requires.frame, c.number-given.ensures, c.self.invariant.consistent.sizes.frame_states)
