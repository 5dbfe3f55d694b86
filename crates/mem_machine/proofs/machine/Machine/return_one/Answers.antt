use Rattle.std.proofs.Common.{◌∙◌, sym}
use Rattle.mem_machine.specs.Kept.{machine_of}
use Rattle.mem_machine.proofs.Clean.{clean_after_free}
use Rattle.mem_machine.proofs.Back.{back_may_pass, holder_then, may_collect, may_return, not_other, read_head, return_all, returned_notes}
use Rattle.mem_machine.proofs.Freeing.{unit_charged, unit_in_use}
use Rattle.mem_machine.proofs.Made.{visits_here}
use Rattle.mem_machine.proofs.machine.Machine.return_one.Goals as goal

pub pass_back_unit-requires : goal.pass_back_unit-requires
pass_back_unit-requires g c =
    let t = g.N.BootName.table in
    let m = machine_of c.self.inside in
    let visit = visits_here t m _ c.self.view_is c.args.cpu.now c.requires in
    record {
      held = visit.held;
      holder = sym visit.who;
      legal = back_may_pass t m _ c.self.view_is c.args.cpu.now c.requires c.self.invariant.consistent;
    }

pub collect_passed-requires : goal.collect_passed-requires
collect_passed-requires g c =
    let t = g.N.BootName.table in
    let m = machine_of c.self.inside in
    let ok = c.self.invariant.consistent in
    record {
      held = c.in-Some.ensures.run.held;
      holder = holder_then t m _ c.self.view_is c.args.cpu.now c.requires ok c.in-Some.frame _ c.in-Some.ensures.answer.1 _ c.number-cpu_number.ensures.number _ c.in-Some.ensures.run;
      legal = may_collect t m _ c.self.view_is c.args.cpu.now c.requires ok c.in-Some.frame _ c.in-Some.ensures.answer.1 _ c.number-cpu_number.ensures.number _ c.in-Some.ensures.run;
    }

pub return_unit-requires : goal.return_unit-requires
return_unit-requires g c =
    let t = g.N.BootName.table in
    let m = machine_of c.self.inside in
    let ok = c.self.invariant.consistent in
    let heads = read_head t m _ c.self.view_is c.args.cpu.now c.requires ok c.in-Some.frame _ c.in-Some.ensures.answer.1 _ c.number-at.ensures _ c.index.ensures
    ∙ c.in-Head.is in
    let e = c.collect_passed.ensures in
    record {
      held = c.collect_passed.ensures.collected.held;
      legal = may_return g.N.BootName.table (machine_of c.self.inside) _ c.self.view_is c.args.cpu.now c.requires c.self.invariant.consistent c.in-Some.frame _
          c.in-Some.ensures.answer.1 _ c.number-cpu_number.ensures.number _ c.in-Some.ensures.run (record { past = c.collect_passed.new.past; watch = c.collect_passed.new.watch })
          e.collected e.watched _ c.number-at.ensures;
      in_use = unit_in_use _ m.frame_states _ _ c.self.invariant.free ok.units heads;
      inside = (ok.units.heads _ _ heads).block.inside;
      charged = unit_charged t m ok _ _ heads;
    }

pub invariant_of-self-2 : goal.invariant_of-self-2
invariant_of-self-2 g c =
    let t = g.N.BootName.table in
    let m = machine_of c.self.inside in
    let ok = c.self.invariant.consistent in
    let u = c.return_unit.ensures in
    let heads = read_head t m _ c.self.view_is c.args.cpu.now c.requires ok c.in-Some.frame _ c.in-Some.ensures.answer.1 _ c.number-at.ensures _ c.index.ensures
    ∙ c.in-Head.is in
    let e = c.collect_passed.ensures in
    let notes = returned_notes t m _ c.self.view_is c.args.cpu.now c.requires ok c.in-Some.frame _
    c.in-Some.ensures.answer.1 _ c.number-cpu_number.ensures.number _ c.in-Some.ensures.run (record { past = c.collect_passed.new.past; watch = c.collect_passed.new.watch })
    e.collected e.watched _ c.number-at.ensures _ c.return_unit.ensures.notes in
    let all = return_all t m _ c.self.view_is c.args.cpu.now c.requires ok c.in-Some.frame _ c.in-Some.ensures.answer _ _ _ _ c.self.invariant.free
    c.self.invariant.sums c.self.invariant.owners _ c.number-at.ensures _ heads _ u.frame_states _ u.frames u.areas _ u.charges _ c.with_last_put-self-inside.ensures _ notes in
    record { consistent = all.consistent; free = all.free_is; clean = clean_after_free t _ all.consistent _ _ _ _ u.frame_states c.self.invariant.clean; sums = all.sums_are; owners = all.owners_are }

pub returns : goal.returns
returns g c =
    let t = g.N.BootName.table in
    let m = machine_of c.self.inside in
    let ok = c.self.invariant.consistent in
    let u = c.return_unit.ensures in
    let heads = read_head t m _ c.self.view_is c.args.cpu.now c.requires ok c.in-Some.frame _ c.in-Some.ensures.answer.1 _ c.number-at.ensures _ c.index.ensures
    ∙ c.in-Head.is in
    let e = c.collect_passed.ensures in
    let notes = returned_notes t m _ c.self.view_is c.args.cpu.now c.requires ok c.in-Some.frame _
    c.in-Some.ensures.answer.1 _ c.number-cpu_number.ensures.number _ c.in-Some.ensures.run (record { past = c.collect_passed.new.past; watch = c.collect_passed.new.watch })
    e.collected e.watched _ c.number-at.ensures _ c.return_unit.ensures.notes in
    let all = return_all t m _ c.self.view_is c.args.cpu.now c.requires ok c.in-Some.frame _ c.in-Some.ensures.answer _ _ _ _ c.self.invariant.free
    c.self.invariant.sums c.self.invariant.owners _ c.number-at.ensures _ heads _ u.frame_states _ u.frames u.areas _ u.charges _ c.with_last_put-self-inside.ensures _ notes in
    record { returns = all.does; visit = all.visit; steps = all.makes }

pub unreachable-requires : goal.unreachable-requires
unreachable-requires g c =
    not_other g.N.BootName.table (machine_of c.self.inside) _ c.self.view_is c.args.cpu.now c.requires c.self.invariant.consistent c.in-Some.frame _
    c.in-Some.ensures.answer.1 _ c.number-at.ensures _ c.index.ensures c.in_default-index.not-Head
