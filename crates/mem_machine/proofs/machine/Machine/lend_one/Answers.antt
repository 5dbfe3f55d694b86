use Rattle.std.proofs.Common.{◌<◌, ◌≤◌, ap, sym, subst, arith, rules, refl}
use Rattle.zone_blocks.specs.Zone.{BuddyZone}
use Rattle.boot_words.specs.Tables.{KnownTable}
use Rattle.mem_machine.specs.Kept.{machine_of}
use Rattle.mem_machine.specs.Steps.{lend_steps}
use Rattle.mem_machine.proofs.Clean.{clean_after_set}
use Rattle.mem_machine.proofs.Collecting.{turn_notes}
use Rattle.mem_machine.proofs.Lends.{block_inside, first_lent, lent_to_none, may_lend_first, number_low}
use Rattle.mem_machine.proofs.Made.{visits_here}
use Rattle.mem_machine.proofs.machine.Machine.lend_one.Goals as goal

pub borrow-requires : goal.borrow-requires
borrow-requires g c =
    let t = g.N.BootName.table in
    let m = machine_of c.self.inside in
    let visit = visits_here t m _ c.self.view_is c.args.cpu.now c.requires.visit in
    record {
      held = visit.held;
      holder = sym visit.who;
      legal = may_lend_first t m _ c.self.view_is c.args.cpu.now c.requires.visit c.self.invariant.consistent
          _ _ c.single_order.result c.in-Some.block c.in-Some-frame.frame c.self.invariant.free c.single_order.ensures c.in-Some.ensures.taken c.in-Some.ensures.frames c.in-Some-frame.ensures.0;
      room = search rules;
    }

pub overflow_cast-cpu_number : goal.overflow_cast-cpu_number
overflow_cast-cpu_number g c =
    let low = number_low g.N.BootName.table (machine_of c.self.inside) _ c.self.view_is c.args.cpu.now c.requires.visit in
    let few = c.prove_sizes.ensures.few in
    let named = c.number-cpu_number.ensures.number in
    let small : c.number-cpu_number.result < 256 = omega (arith, low, few, named) in
    search rules

pub returns-in_default-clause-lends : goal.returns-in_default-clause-lends
returns-in_default-clause-lends g c =
    lent_to_none (machine_of c.self.inside) _ c.self.view_is _ _ c.single_order.result c.single_order.ensures c.in_default.ensures.taken (ap (λ (z : BuddyZone). z.blocks) c.in_default.ensures.none)

pub invariant_of-self-2 : goal.invariant_of-self-2
invariant_of-self-2 g c =
    let t = g.N.BootName.table in
    let m = machine_of c.self.inside in
    let visit = visits_here t m _ c.self.view_is c.args.cpu.now c.requires.visit in
    let noted = turn_notes lend_steps t (machine_of c.self.inside).run c.args.cpu.now.number c.in-Some-frame.frame _ _ c.number-at.ensures c.number-cpu_number.ensures.number _ _ visit.held
    c.borrow.ensures.run c.watch_lent.ensures in
    let all = first_lent t (machine_of c.self.inside) _ c.self.view_is c.args.cpu.now c.requires.visit c.self.invariant.consistent
    _ _ c.single_order.result c.in-Some.block c.in-Some-frame.frame c.self.invariant.free c.single_order.ensures c.in-Some.ensures.taken c.in-Some.ensures.frames c.in-Some-frame.ensures.0
    _ _ _ _ _ _ c.self.invariant.sums c.self.invariant.owners c.in-Some.ensures.areas c.number-at.ensures c.number-cpu_number.ensures.number c.borrow.ensures.cpu _ noted in
    record { consistent = all.consistent; free = all.free_is; clean = clean_after_set t _ all.consistent _ _ _ _ refl refl c.self.invariant.clean; sums = all.sums_are; owners = all.owners_are }

pub returns : goal.returns
returns g c =
    let t = g.N.BootName.table in
    let m = machine_of c.self.inside in
    let visit = visits_here t m _ c.self.view_is c.args.cpu.now c.requires.visit in
    let noted = turn_notes lend_steps t (machine_of c.self.inside).run c.args.cpu.now.number c.in-Some-frame.frame _ _ c.number-at.ensures c.number-cpu_number.ensures.number _ _ visit.held
    c.borrow.ensures.run c.watch_lent.ensures in
    let all = first_lent t (machine_of c.self.inside) _ c.self.view_is c.args.cpu.now c.requires.visit c.self.invariant.consistent
    _ _ c.single_order.result c.in-Some.block c.in-Some-frame.frame c.self.invariant.free c.single_order.ensures c.in-Some.ensures.taken c.in-Some.ensures.frames c.in-Some-frame.ensures.0
    _ _ _ _ _ _ c.self.invariant.sums c.self.invariant.owners c.in-Some.ensures.areas c.number-at.ensures c.number-cpu_number.ensures.number c.borrow.ensures.cpu _ noted in
    record { lends = record { frame = c.in-Some-frame.frame; lends = all.does; steps = all.makes }; visit = all.visit }

pub unreachable-requires : goal.unreachable-requires
unreachable-requires g c =
    let there = block_inside _ _ _ _ c.single_order.result c.in-Some.block c.self.invariant.free c.single_order.ensures c.in-Some.ensures.taken c.in-Some.ensures.frames in
    let past : g.N.BootName.table.frames ≤ c.in-Some.block.at = search rules in
    let inside = there.0 in
    let sized = c.self.invariant.consistent.sizes.frame_states in
    omega (arith, past, inside, sized)

pub invariant_of-self : goal.invariant_of-self
invariant_of-self g c = search rules

pub index_mut-requires : goal.index_mut-requires
index_mut-requires g c = omega (arith, subst (λ (t : KnownTable). c.in-Some-frame.frame < t.frames) c.args.tables.now.words_are c.in-Some-frame.ensures.1, c.number-at.ensures, c.self.invariant.consistent.sizes.frame_states)
